-- The invariants of the loops of `first_header`.
use Rattle.std.proofs.Common.{◌≡◌, find, None}
use Rattle.std.specs.List.{range_with_len}
use Rattle.elf_load.specs.Questions.{test_of}
use Rattle.elf_load.proofs.refusals.first_header.Given as goal

-- the question holds of no header so far
abbrev pub invariant-loop-number : goal.invariant-loop-number
invariant-loop-number l = find (test_of l.question l.bytes) (range_with_len 0 l.number) ≡ None
