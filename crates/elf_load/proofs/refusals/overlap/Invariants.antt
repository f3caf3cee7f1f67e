-- The invariants of the loops of `overlap`.
use Rattle.std.proofs.Common.{◌≡◌, ◌+◌, ◌-◌, ℕ, map, find, flat_map, None}
use Rattle.std.specs.List.{range_with_len}
use Rattle.elf_spec.specs.Header.{program_header, e_phnum}
use Rattle.elf_spec.specs.Refusals.{overlaps}
use Rattle.elf_load.proofs.refusals.overlap.Given as goal

-- no header so far shares an address with a later one
abbrev pub invariant-loop-earlier : goal.invariant-loop-earlier
invariant-loop-earlier l =
    find (λ (pair : ℕ × ℕ). overlaps (program_header l.bytes pair.0) (program_header l.bytes pair.1))
    (flat_map (λ i. map (λ j. (i, j)) (range_with_len (i + 1) (e_phnum l.bytes - (i + 1))))
    (range_with_len 0 l.earlier)) ≡ None
