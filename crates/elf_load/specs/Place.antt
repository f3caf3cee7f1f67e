-- Where an address lies on a page, and where its byte is in the file.
use Rattle.std.specs.Prelude.{ℕ, ◌+◌, ◌*◌, ◌-◌, min, List, length}
use Rattle.elf_spec.specs.Header.{ProgramHeader}
use Rattle.elf_spec.specs.Segments.{page_size}

-- The offset of an address on the page of a number; for one that isn't there, the nearer end of the page.
abbrev pub offset_on : ℕ → ℕ → ℕ
offset_on number address = min (address - page_size * number) page_size

-- Where in the file a segment's byte at an address is; for an address without one, the nearer end of the segment's
-- bytes, as far as the file has them. (System V gABI, ch. 5, Program Header)
abbrev pub place_in_file : List ℕ → ProgramHeader → ℕ → ℕ
place_in_file bytes segment address =
    min (length bytes) (segment.offset + min (min segment.filesz segment.memsz) (address - segment.vaddr))
