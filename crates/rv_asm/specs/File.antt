-- The file of a guest: the fields of its two headers in their order, and then the bytes of its one segment.
use Rattle.std.specs.Prelude.{ℕ, ◌+◌, List, [], ◌∷◌, ◌++◌, length, flat_map}
use Rattle.byteorder.specs.Endian.{little_bytes}

-- Numbers of two bytes each, the lower first. (System V gABI, ch. 4, Data Representation and Data Encoding)
abbrev pub halves : List ℕ → List ℕ
halves numbers = flat_map (little_bytes 2) numbers

-- Numbers of four bytes each, the lowest first. (System V gABI, ch. 4, Data Representation and Data Encoding)
abbrev pub words : List ℕ → List ℕ
words numbers = flat_map (little_bytes 4) numbers

-- The identification: the magic number, 32 bits, the lowest byte first, version 1, and zeros.
-- (System V gABI, ch. 4, ELF Identification)
abbrev pub identification : List ℕ
identification = 0x7f ∷ 0x45 ∷ 0x4c ∷ 0x46 ∷ 1 ∷ 1 ∷ 1 ∷ 0 ∷ 0 ∷ 0 ∷ 0 ∷ 0 ∷ 0 ∷ 0 ∷ 0 ∷ 0 ∷ []

-- The header of a RISC-V executable that starts at an address, has one program header after this one, and has no
-- sections. (System V gABI, ch. 4, ELF Header)
abbrev pub file_header : ℕ → List ℕ
file_header start =
    identification
    ++ halves (2 ∷ 243 ∷ [])
    ++ words (1 ∷ start ∷ 52 ∷ 0 ∷ 0 ∷ [])
    ++ halves (52 ∷ 32 ∷ 1 ∷ 0 ∷ 0 ∷ 0 ∷ [])

-- The program header of a loadable segment with all rights, whose bytes follow this header.
-- (System V gABI, ch. 5, Program Header)
abbrev pub segment_header : ℕ → ℕ → ℕ → List ℕ
segment_header base filesz memsz = words (1 ∷ 84 ∷ base ∷ base ∷ filesz ∷ memsz ∷ 7 ∷ 4 ∷ [])

-- The file of a guest with these bytes at its base, and that many zeros after them. (System V gABI, ch. 4 and 5)
unfoldable pub guest_file : ℕ → List ℕ → ℕ → List ℕ
guest_file base bytes bss = file_header base ++ segment_header base (length bytes) (length bytes + bss) ++ bytes
