-- The invariants of the loops of `highest_page`.
use Rattle.std.proofs.Common.{◌≡◌, ◌<◌, ◌^◌}
use Rattle.elf_spec.specs.Segments.{highest_page}
use Rattle.elf_load.specs.Header.{segments_below}
use Rattle.elf_load.proofs.pages.highest_page.Given as goal

-- the highest page of the segments so far
abbrev pub invariant-loop-i : goal.invariant-loop-i
invariant-loop-i l = (l.highest ≡ highest_page (segments_below l.bytes l.i)) × (l.highest < 2 ^ 21)
