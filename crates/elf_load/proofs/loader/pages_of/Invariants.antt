-- The invariants of the loops of `pages_of`.
use Rattle.std.proofs.Common.{◌≡◌, map}
use Rattle.std.specs.Arc.{arc_value}
use Rattle.memory_spec.specs.Pages.{zero_page}
use Rattle.elf_spec.specs.Header.{segments}
use Rattle.elf_spec.specs.Image.{image_page}
use Rattle.elf_load.specs.Header.{header_of}
use Rattle.elf_load.specs.Touched.{touched_below, mapped_at}
use Rattle.elf_load.proofs.loader.pages_of.Given as goal

-- the pages so far, with the rights and the bytes of each, and the page of zeros
abbrev pub invariant-loop-number : goal.invariant-loop-number
invariant-loop-number l =
    (map header_of l.headers.items ≡ segments l.bytes)
    × (l.pages.mapped.items ≡ map (mapped_at l.bytes) (touched_below l.bytes l.number))
    × (l.pages.table ≡ map (image_page l.bytes) (touched_below l.bytes l.number))
    × (arc_value l.pages.zero ≡ zero_page)
