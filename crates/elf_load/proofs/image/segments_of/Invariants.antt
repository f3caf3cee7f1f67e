-- The invariants of the loops of `segments_of`.
use Rattle.std.proofs.Common.{◌≡◌, map}
use Rattle.elf_load.specs.Header.{header_of, segments_below}
use Rattle.elf_load.proofs.image.segments_of.Given as goal

-- the segments among the headers so far
abbrev pub invariant-loop-i : goal.invariant-loop-i
invariant-loop-i l = map header_of l.found.items ≡ segments_below l.bytes l.i
