-- What a program header that was read means.
use Rattle.std.specs.Prelude.{ℕ, List, filter, map}
use Rattle.std.specs.List.{range_with_len}
use Rattle.elf_load.specs.declared.header.Header.{Header}
use Rattle.elf_spec.specs.Header.{ProgramHeader, program_header, is_segment}

-- The program header that a read one is. (System V gABI, ch. 5, Program Header)
abbrev pub header_of : Header → ProgramHeader
header_of header = record {
  kind = header.kind;
  offset = header.offset;
  vaddr = header.vaddr;
  filesz = header.filesz;
  memsz = header.memsz;
  flags = header.flags;
}

-- The segments among the first headers. (System V gABI, ch. 5, Program Loading)
abbrev pub segments_below : List ℕ → ℕ → List ProgramHeader
segments_below bytes count = filter is_segment (map (program_header bytes) (range_with_len 0 count))
