-- The one call whose row needs the pages.
use Rattle.std.specs.Prelude.{Bool, true, false}
use Rattle.guest_call.specs.declared.Call.{Call}
use Rattle.guest_call.specs.declared.Call.TheVariants.{Put}

-- whether a call is a put
abbrev pub is_put : Call → Bool
is_put (Put address count) = true
is_put _ = false
