-- The refusals of a file, one row for each, in their order. The first row that gives one is the answer.
use Rattle.std.specs.Prelude.{ℕ, ◌+◌, ◌-◌, ◌/◌, ◌%◌, Bool, true, false, not, ◌&&◌, ◌||◌, ◌==◌, nat_lt, List, [], ◌∷◌, map, length, take, find, flat_map, bytes_eq, Option, Some, None, option_map}
use Rattle.std.specs.List.{range_with_len}
use Rattle.std.specs.Int.{bit_at}
use Rattle.elf_spec.specs.declared.TheConstants.{IMAGE_START, IMAGE_END}
use Rattle.elf_spec.specs.declared.Refusal.{Refusal}
use Rattle.elf_spec.specs.declared.Refusal.TheVariants.{NotElf, NotElf32, NotExec, NotRiscv, Compressed, EntrySize, ShortTable, Dynamic, ShortSegment, Outside, Overlap, TooManyPages, Entry}
use Rattle.elf_spec.specs.Header.{header_size, program_header_size, magic, ei_class, ei_data, ei_version, e_type, e_machine, e_entry, e_flags, e_phentsize, e_phnum, ProgramHeader, program_header, program_header_offset, is_load, is_dynamic, is_segment, segments}
use Rattle.elf_spec.specs.Segments.{page_size, shares_address, page_numbers, page_permission}

-- this refusal if the test holds, else none
abbrev pub refuse_if : Bool → Refusal → Option Refusal
refuse_if true refusal = Some refusal
refuse_if false refusal = None

-- the least number of a program header for which the test holds
abbrev pub first_header : List ℕ → (ℕ → Bool) → Option ℕ
first_header bytes test = find test (range_with_len 0 (e_phnum bytes))

-- the pairs of numbers below a count, the lower one first, in order
abbrev pub pairs_below : ℕ → List (ℕ × ℕ)
pairs_below count =
    flat_map (λ i. map (λ j. (i, j)) (range_with_len (i + 1) (count - (i + 1)))) (range_with_len 0 count)

-- too short for a header, or another magic number (System V gABI, ch. 4, ELF Identification)
abbrev pub not_elf : List ℕ → Option Refusal
not_elf bytes = refuse_if (nat_lt (length bytes) header_size || not (bytes_eq (take 4 bytes) magic)) NotElf

-- not of 32 bits, not with the lowest byte first, or another version (System V gABI, ch. 4, ELF Identification)
abbrev pub not_elf32 : List ℕ → Option Refusal
not_elf32 bytes = refuse_if (not (ei_class bytes == 1 && ei_data bytes == 1 && ei_version bytes == 1)) NotElf32

-- not an executable, of type ET_EXEC (System V gABI, ch. 4, ELF Header)
abbrev pub not_exec : List ℕ → Option Refusal
not_exec bytes = refuse_if (not (e_type bytes == 2)) NotExec

-- not for RISC-V, the machine EM_RISCV (System V gABI, ch. 4, ELF Header)
abbrev pub not_riscv : List ℕ → Option Refusal
not_riscv bytes = refuse_if (not (e_machine bytes == 243)) NotRiscv

-- compressed instructions are requested, by EF_RISCV_RVC (RISC-V ELF psABI, File Header)
abbrev pub compressed : List ℕ → Option Refusal
compressed bytes = refuse_if (bit_at (e_flags bytes) 0 == 1) Compressed

-- program headers of another size (System V gABI, ch. 4, ELF Header)
abbrev pub entry_size : List ℕ → Option Refusal
entry_size bytes = refuse_if (not (e_phnum bytes == 0) && not (e_phentsize bytes == program_header_size)) EntrySize

-- the file ends before the end of a program header (System V gABI, ch. 4, ELF Header)
abbrev pub short_table : List ℕ → Option Refusal
short_table bytes =
    option_map ShortTable (first_header bytes (λ i. nat_lt (length bytes) (program_header_offset bytes (i + 1))))

-- a header of dynamic linking (System V gABI, ch. 5, Program Header)
abbrev pub dynamic : List ℕ → Option Refusal
dynamic bytes = option_map Dynamic (first_header bytes (λ i. is_dynamic (program_header bytes i)))

-- the loadable header's bytes reach past the file's end, or are more than its memory (System V gABI, ch. 5, Program
-- Header)
abbrev pub is_short : List ℕ → ProgramHeader → Bool
is_short bytes header = nat_lt (length bytes) (header.offset + header.filesz) || nat_lt header.memsz header.filesz

-- a loadable header whose bytes aren't all there (System V gABI, ch. 5, Program Header)
abbrev pub short_segment : List ℕ → Option Refusal
short_segment bytes =
    option_map ShortSegment
    (first_header bytes (λ i. is_load (program_header bytes i) && is_short bytes (program_header bytes i)))

-- the segment isn't inside the addresses for images
abbrev pub is_outside : ProgramHeader → Bool
is_outside segment = nat_lt segment.vaddr IMAGE_START || nat_lt IMAGE_END (segment.vaddr + segment.memsz)

-- a segment that isn't inside the addresses for images
abbrev pub outside : List ℕ → Option Refusal
outside bytes =
    option_map Outside
    (first_header bytes (λ i. is_segment (program_header bytes i) && is_outside (program_header bytes i)))

-- both headers are of segments, and these share an address
abbrev pub overlaps : ProgramHeader → ProgramHeader → Bool
overlaps one other = is_segment one && is_segment other && shares_address one other

-- two segments that share an address
abbrev pub overlap : List ℕ → Option Refusal
overlap bytes =
    option_map (λ (pair : ℕ × ℕ). Overlap pair.0 pair.1)
    (find (λ (pair : ℕ × ℕ). overlaps (program_header bytes pair.0) (program_header bytes pair.1))
    (pairs_below (e_phnum bytes)))

-- the number of pages that the segments touch
abbrev pub page_count : List ℕ → ℕ
page_count bytes = length (page_numbers (segments bytes))

-- more pages than 1,024
abbrev pub too_many_pages : List ℕ → Option Refusal
too_many_pages bytes = refuse_if (nat_lt 1024 (page_count bytes)) (TooManyPages (page_count bytes))

-- the address may be executed: its page has the right X (System V gABI, ch. 5, Segment Permissions)
abbrev pub is_executable : List ℕ → ℕ → Bool
is_executable bytes address = bit_at (page_permission (segments bytes) (address / page_size)) 0 == 1

-- no instruction can be at the entry point (RISC-V unprivileged ISA 20191213, 2.2)
abbrev pub entry_refusal : List ℕ → Option Refusal
entry_refusal bytes = refuse_if (not (e_entry bytes % 4 == 0 && is_executable bytes (e_entry bytes))) Entry

-- what each row gives of a file, in the order of the rows
abbrev pub refusals : List ℕ → List (Option Refusal)
refusals bytes =
    not_elf bytes ∷ not_elf32 bytes ∷ not_exec bytes ∷ not_riscv bytes ∷ compressed bytes ∷ entry_size bytes
    ∷ short_table bytes ∷ dynamic bytes ∷ short_segment bytes ∷ outside bytes ∷ overlap bytes
    ∷ too_many_pages bytes ∷ entry_refusal bytes ∷ []

-- the first refusal that is given
abbrev pub first_given : List (Option Refusal) → Option Refusal
first_given [] = None
first_given (None ∷ rest) = first_given rest
first_given (Some refusal ∷ rest) = Some refusal

-- the refusal of a file, or none if it is accepted
unfoldable pub refusal_of : List ℕ → Option Refusal
refusal_of bytes = first_given (refusals bytes)
