-- The invariants of the loops of `mark_all`.
use Rattle.std.proofs.Common.{◌≡◌, ◌<◌, ℕ, false, length, get_or}
use Rattle.std.specs.List.{list_any}
use Rattle.elf_spec.specs.Segments.{touches}
use Rattle.elf_load.specs.Header.{segments_below}
use Rattle.elf_load.proofs.pages.mark_all.Given as goal

-- the marks say whether a segment so far touches each page
abbrev pub invariant-loop-i : goal.invariant-loop-i
invariant-loop-i l =
    (length l.marks ≡ length l.initial.marks)
    × ((k : ℕ) → k < length l.marks → get_or l.marks k false ≡ list_any (touches k) (segments_below l.bytes l.i))
