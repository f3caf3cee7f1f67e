-- The fields of an ELF32 file's header and of its program headers, as far as they are read.
use Rattle.std.specs.Prelude.{ℕ, ◌+◌, ◌*◌, Bool, ◌&&◌, ◌||◌, ◌==◌, nat_lt, List, [], ◌∷◌, map, filter, slice_index}
use Rattle.std.specs.List.{range_with_len}
use Rattle.elf_spec.specs.Fields.{u16_at, u32_at}

-- the size of the file's header, in bytes (System V gABI, ch. 4, ELF Header)
abbrev pub header_size : ℕ
header_size = 52

-- the size of one program header, in bytes (System V gABI, ch. 5, Program Header)
abbrev pub program_header_size : ℕ
program_header_size = 32

-- the magic number: 7f and the letters ELF (System V gABI, ch. 4, ELF Identification)
abbrev pub magic : List ℕ
magic = 0x7f ∷ 0x45 ∷ 0x4c ∷ 0x46 ∷ []

-- the file's class, 1 for 32 bits (System V gABI, ch. 4, ELF Identification)
abbrev pub ei_class : List ℕ → ℕ
ei_class bytes = slice_index bytes 4

-- the byte order, 1 for the lowest byte first (System V gABI, ch. 4, ELF Identification)
abbrev pub ei_data : List ℕ → ℕ
ei_data bytes = slice_index bytes 5

-- the version of the identification, 1 (System V gABI, ch. 4, ELF Identification)
abbrev pub ei_version : List ℕ → ℕ
ei_version bytes = slice_index bytes 6

-- the file's type, 2 for an executable (System V gABI, ch. 4, ELF Header)
abbrev pub e_type : List ℕ → ℕ
e_type bytes = u16_at bytes 16

-- the machine, 243 for RISC-V (System V gABI, ch. 4, ELF Header)
abbrev pub e_machine : List ℕ → ℕ
e_machine bytes = u16_at bytes 18

-- the address at which the program starts (System V gABI, ch. 4, ELF Header)
abbrev pub e_entry : List ℕ → ℕ
e_entry bytes = u32_at bytes 24

-- the offset of the program headers in the file (System V gABI, ch. 4, ELF Header)
abbrev pub e_phoff : List ℕ → ℕ
e_phoff bytes = u32_at bytes 28

-- the machine's flags (System V gABI, ch. 4, ELF Header; bit 0 is EF_RISCV_RVC of the RISC-V ELF psABI, File Header)
abbrev pub e_flags : List ℕ → ℕ
e_flags bytes = u32_at bytes 36

-- the size of a program header, as the file says it (System V gABI, ch. 4, ELF Header)
abbrev pub e_phentsize : List ℕ → ℕ
e_phentsize bytes = u16_at bytes 42

-- the number of program headers (System V gABI, ch. 4, ELF Header)
abbrev pub e_phnum : List ℕ → ℕ
e_phnum bytes = u16_at bytes 44

-- a program header, without its physical address and its alignment, which aren't read (System V gABI, ch. 5, Program
-- Header)
pub record ProgramHeader : Type 0 where
  pub kind : ℕ
  pub offset : ℕ
  pub vaddr : ℕ
  pub filesz : ℕ
  pub memsz : ℕ
  pub flags : ℕ

-- the offset of the program header of this number (System V gABI, ch. 4, ELF Header)
abbrev pub program_header_offset : List ℕ → ℕ → ℕ
program_header_offset bytes i = e_phoff bytes + program_header_size * i

-- the program header at an offset (System V gABI, ch. 5, Program Header)
abbrev pub program_header_at : List ℕ → ℕ → ProgramHeader
program_header_at bytes at = record {
  kind = u32_at bytes at;
  offset = u32_at bytes (at + 4);
  vaddr = u32_at bytes (at + 8);
  filesz = u32_at bytes (at + 16);
  memsz = u32_at bytes (at + 20);
  flags = u32_at bytes (at + 24);
}

-- the program header of this number (System V gABI, ch. 5, Program Header)
abbrev pub program_header : List ℕ → ℕ → ProgramHeader
program_header bytes i = program_header_at bytes (program_header_offset bytes i)

-- the file's program headers (System V gABI, ch. 5, Program Header)
abbrev pub program_headers : List ℕ → List ProgramHeader
program_headers bytes = map (program_header bytes) (range_with_len 0 (e_phnum bytes))

-- the header is one of a loadable segment, of type PT_LOAD (System V gABI, ch. 5, Program Header)
abbrev pub is_load : ProgramHeader → Bool
is_load header = header.kind == 1

-- the header is one of dynamic linking, of type PT_DYNAMIC or PT_INTERP (System V gABI, ch. 5, Program Header)
abbrev pub is_dynamic : ProgramHeader → Bool
is_dynamic header = header.kind == 2 || header.kind == 3

-- the header is one of a loadable segment that takes memory (System V gABI, ch. 5, Program Header)
abbrev pub is_segment : ProgramHeader → Bool
is_segment header = is_load header && nat_lt 0 header.memsz

-- the segments that take memory, in the order of their headers (System V gABI, ch. 5, Program Loading)
abbrev pub segments : List ℕ → List ProgramHeader
segments bytes = filter is_segment (program_headers bytes)
