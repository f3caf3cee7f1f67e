-- The invariant of the loop of `items_of`.
use Rattle.std.proofs.Common.{All}
use Rattle.rv_asm.specs.Items.{IsWritable}
use Rattle.worked_guests.proofs.file.items_of.Given as goal

-- the items so far can be written
abbrev pub invariant-loop-line : goal.invariant-loop-line
invariant-loop-line l = All IsWritable l.items.items
