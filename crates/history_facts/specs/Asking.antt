-- The call that a thunk requests.
use Rattle.std.specs.Prelude.{Option, Some, None}
use Rattle.guest_call.specs.declared.Call.{Call}
use Rattle.machine_spec.specs.declared.states.Asked.{Asked}
use Rattle.machine_spec.specs.declared.states.Asked.TheVariants.{Asks, Stops}

-- The call, if one is requested; an end is none.
abbrev pub call_in : Asked → Option Call
call_in (Asks call) = Some call
call_in (Stops e) = None
