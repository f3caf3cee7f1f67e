-- The invariants of the loops of `segments_on`.
use Rattle.std.proofs.Common.{◌≡◌, filter, take}
use Rattle.elf_spec.specs.Segments.{touches}
use Rattle.elf_load.specs.Header.{header_of}
use Rattle.elf_load.proofs.image.segments_on.Given as goal

-- those of the headers so far that touch the page
abbrev pub invariant-loop-header : goal.invariant-loop-header
invariant-loop-header l =
    l.found.items ≡ filter (λ header. touches l.number (header_of header)) (take l.header-index l.headers)
