-- The invariant of the loop of `Memory::of`.
use Rattle.std.proofs.Common.{◌≡◌, map, take}
use Rattle.std.specs.Rc.{rc_value}
use Rattle.plain_machine.proofs.memory.Memory.of.Given as goal

-- the pages so far are the table's
abbrev pub invariant-loop-slot : goal.invariant-loop-slot
invariant-loop-slot l = map rc_value l.pages.items ≡ take l.slot l.table
