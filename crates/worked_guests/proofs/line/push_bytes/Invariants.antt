-- The invariant of the loop of `push_bytes`.
use Rattle.std.proofs.Common.{All}
use Rattle.rv_asm.specs.Items.{IsWritable}
use Rattle.worked_guests.proofs.line.push_bytes.Given as goal

-- the items so far can be written
abbrev pub invariant-loop-byte : goal.invariant-loop-byte
invariant-loop-byte l = All IsWritable l.items.items
