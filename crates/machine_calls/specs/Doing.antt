-- The parts of a machine after a thunk's request was performed.
use Rattle.std.specs.Prelude.{ℕ, List, Option, Some, None}
use Rattle.memory_spec.specs.Pages.{Mapped, Memory}
use Rattle.thunk_spec.specs.Put.{is_readable}
use Rattle.guest_call.specs.Effect.{Effect}
use Rattle.guest_call.specs.Objects.{Objects, act}
use Rattle.machine_spec.specs.declared.states.End.{End}
use Rattle.machine_spec.specs.declared.states.Asked.{Asked}
use Rattle.machine_spec.specs.declared.states.Asked.TheVariants.{Asks, Stops}
use Rattle.machine_spec.specs.Machine.{Hart}
use Rattle.machine_spec.specs.Performing.{settled}
use Rattle.machine_spec.specs.Step.{fate_end}

-- The harts, if thread t made the request.
abbrev pub harts_after : List Mapped → Objects → Memory → ℕ → List Hart → Asked → List Hart
harts_after map o memory t harts (Asks call) = settled (act (is_readable map) o t call).0 memory t harts
harts_after map o memory t harts (Stops e) = harts

-- The objects.
abbrev pub objects_after : List Mapped → Objects → ℕ → Asked → Objects
objects_after map o t (Asks call) = (act (is_readable map) o t call).1
objects_after map o t (Stops e) = o

-- The end that a request leads to by itself, whatever the harts then are.
abbrev pub own_end : List Mapped → Objects → ℕ → Asked → Option End
own_end map o t (Asks call) = fate_end (act (is_readable map) o t call).0.fate
own_end map o t (Stops e) = Some e

-- What a call did to the threads, if one was made.
abbrev pub effect_made : List Mapped → Objects → ℕ → Asked → Option Effect
effect_made map o t (Asks call) = Some (act (is_readable map) o t call).0
effect_made map o t (Stops e) = None
