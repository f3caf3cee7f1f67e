-- The invariant of the loop of `shared`.
use Rattle.std.proofs.Common.{◌≡◌, map, take}
use Rattle.std.specs.Rc.{rc_value}
use Rattle.plain_machine.proofs.memory.shared.Given as goal

-- the pages so far are the first ones
abbrev pub invariant-loop-page : goal.invariant-loop-page
invariant-loop-page l = map rc_value l.shared.items ≡ map rc_value (take l.page-index l.pages)
