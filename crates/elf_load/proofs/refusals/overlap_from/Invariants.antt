-- The invariants of the loops of `overlap_from`.
use Rattle.std.proofs.Common.{◌≡◌, ◌-◌, find, None}
use Rattle.std.specs.List.{range_with_len}
use Rattle.elf_spec.specs.Header.{program_header}
use Rattle.elf_spec.specs.Refusals.{overlaps}
use Rattle.elf_load.proofs.refusals.overlap_from.Given as goal

-- no header so far shares an address with the earlier one
abbrev pub invariant-loop-number : goal.invariant-loop-number
invariant-loop-number l =
    find (λ j. overlaps (program_header l.bytes l.earlier) (program_header l.bytes j))
    (range_with_len l.from (l.number - l.from)) ≡ None
