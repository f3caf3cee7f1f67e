-- Worked examples: the smallest guest, and the same file with one field damaged.
use Rattle.std.proofs.Common.{◌≡◌, ℕ, List, [], ◌∷◌, ◌++◌, true, Some, None, slice_set, take, map, replicate, refl}
use Rattle.std.specs.List.{range_with_len}
use Rattle.elf_spec.specs.declared.Refusal.TheVariants.{NotElf, NotElf32, NotExec, NotRiscv, Compressed, EntrySize, ShortTable, Dynamic, ShortSegment, Outside, Overlap, TooManyPages, Entry}
use Rattle.elf_spec.specs.Fields.{u16_at, u32_at}
use Rattle.elf_spec.specs.Refusals.{refusal_of}
use Rattle.elf_spec.specs.Image.{image_pages, image_byte, entry_of, is_image}

-- the file's header: an executable for RISC-V that starts at 0x10000, with one program header at 52
abbrev pub hi_header : List ℕ
hi_header =
    0x7f ∷ 0x45 ∷ 0x4c ∷ 0x46 ∷ 0x01 ∷ 0x01 ∷ 0x01 ∷ 0x00 ∷ 0x00 ∷ 0x00 ∷ 0x00 ∷ 0x00 ∷ 0x00 ∷ 0x00 ∷ 0x00 ∷ 0x00 ∷
    0x02 ∷ 0x00 ∷ 0xf3 ∷ 0x00 ∷ 0x01 ∷ 0x00 ∷ 0x00 ∷ 0x00 ∷ 0x00 ∷ 0x00 ∷ 0x01 ∷ 0x00 ∷ 0x34 ∷ 0x00 ∷ 0x00 ∷ 0x00 ∷
    0x00 ∷ 0x00 ∷ 0x00 ∷ 0x00 ∷ 0x00 ∷ 0x00 ∷ 0x00 ∷ 0x00 ∷ 0x34 ∷ 0x00 ∷ 0x20 ∷ 0x00 ∷ 0x01 ∷ 0x00 ∷ 0x00 ∷ 0x00 ∷
    0x00 ∷ 0x00 ∷ 0x00 ∷ 0x00 ∷ []

-- the program header: 35 bytes of the file from 84 on, at 0x10000, with the rights R, W and X
abbrev pub hi_program_header : List ℕ
hi_program_header =
    0x01 ∷ 0x00 ∷ 0x00 ∷ 0x00 ∷ 0x54 ∷ 0x00 ∷ 0x00 ∷ 0x00 ∷ 0x00 ∷ 0x00 ∷ 0x01 ∷ 0x00 ∷ 0x00 ∷ 0x00 ∷ 0x01 ∷ 0x00 ∷
    0x23 ∷ 0x00 ∷ 0x00 ∷ 0x00 ∷ 0x23 ∷ 0x00 ∷ 0x00 ∷ 0x00 ∷ 0x07 ∷ 0x00 ∷ 0x00 ∷ 0x00 ∷ 0x04 ∷ 0x00 ∷ 0x00 ∷ 0x00 ∷ []

-- the program: `lui a0,0x10; addi a0,a0,0x20; addi a1,x0,3; addi a7,x0,1; ecall; addi a0,x0,0; addi a7,x0,0; ecall`, as
-- GNU as encodes it, and the text "hi" with a newline
abbrev pub hi_program : List ℕ
hi_program =
    0x37 ∷ 0x05 ∷ 0x01 ∷ 0x00 ∷ 0x13 ∷ 0x05 ∷ 0x05 ∷ 0x02 ∷ 0x93 ∷ 0x05 ∷ 0x30 ∷ 0x00 ∷ 0x93 ∷ 0x08 ∷ 0x10 ∷ 0x00 ∷
    0x73 ∷ 0x00 ∷ 0x00 ∷ 0x00 ∷ 0x13 ∷ 0x05 ∷ 0x00 ∷ 0x00 ∷ 0x93 ∷ 0x08 ∷ 0x00 ∷ 0x00 ∷ 0x73 ∷ 0x00 ∷ 0x00 ∷ 0x00 ∷
    0x68 ∷ 0x69 ∷ 0x0a ∷ []

-- a guest that prints "hi" and ends
abbrev pub hi_elf : List ℕ
hi_elf = hi_header ++ hi_program_header ++ hi_program

-- the expected values follow from the header by hand: a sound file
pub hi_is_accepted : is_image hi_elf ≡ true
unfolding is_image refusal_of u16_at u32_at
hi_is_accepted = refl

-- address 0x10000 is on page 16, and the segment's flags are 7
pub hi_has_one_page : image_pages hi_elf ≡ record { number = 16; permission = 7 } ∷ []
unfolding image_pages u16_at u32_at
hi_has_one_page = refl

-- e_entry of the header
pub hi_starts_at_its_first_byte : entry_of hi_elf ≡ 0x10000
unfolding entry_of u32_at
hi_starts_at_its_first_byte = refl

-- the first 35 bytes of the page are the program's
pub hi_begins_with_its_program : map (image_byte hi_elf) (range_with_len 0x10000 35) ≡ hi_program
unfolding image_byte u16_at u32_at
hi_begins_with_its_program = refl

-- past the segment's bytes there are zeros, also at addresses of no segment
pub hi_is_zero_past_its_program :
    map (image_byte hi_elf) (0x0ffff ∷ 0x10023 ∷ 0x10fff ∷ 0x11000 ∷ []) ≡ 0 ∷ 0 ∷ 0 ∷ 0 ∷ []
unfolding image_byte u16_at u32_at
hi_is_zero_past_its_program = refl

-- a header has 52 bytes
pub fifty_one_bytes : refusal_of (take 51 hi_elf) ≡ Some NotElf
unfolding refusal_of u16_at u32_at
fifty_one_bytes = refl

-- the magic number's first byte is 7f
pub another_magic_number : refusal_of (slice_set hi_elf 0 0x7e) ≡ Some NotElf
unfolding refusal_of u16_at u32_at
another_magic_number = refl

-- class 2 is of 64 bits
pub sixty_four_bits : refusal_of (slice_set hi_elf 4 0x02) ≡ Some NotElf32
unfolding refusal_of u16_at u32_at
sixty_four_bits = refl

-- type 3 is a shared object
pub a_shared_object : refusal_of (slice_set hi_elf 16 0x03) ≡ Some NotExec
unfolding refusal_of u16_at u32_at
a_shared_object = refl

-- machine 244 isn't RISC-V
pub another_machine : refusal_of (slice_set hi_elf 18 0xf4) ≡ Some NotRiscv
unfolding refusal_of u16_at u32_at
another_machine = refl

-- bit 0 of the flags is EF_RISCV_RVC
pub compressed_code : refusal_of (slice_set hi_elf 36 0x01) ≡ Some Compressed
unfolding refusal_of u16_at u32_at
compressed_code = refl

-- the flags' other bits aren't looked at
pub other_flags : refusal_of (slice_set hi_elf 36 0xfe) ≡ None
unfolding refusal_of u16_at u32_at
other_flags = refl

-- a program header has 32 bytes, and not 33
pub another_entry_size : refusal_of (slice_set hi_elf 42 0x21) ≡ Some EntrySize
unfolding refusal_of u16_at u32_at
another_entry_size = refl

-- the program header ends at 84
pub eighty_three_bytes : refusal_of (take 83 hi_elf) ≡ Some (ShortTable 0)
unfolding refusal_of u16_at u32_at
eighty_three_bytes = refl

-- the third would end at 148, and the file has 119 bytes
pub three_headers : refusal_of (slice_set hi_elf 44 0x03) ≡ Some (ShortTable 2)
unfolding refusal_of u16_at u32_at
three_headers = refl

-- the second is of a type that isn't known, and ends at 116
pub two_headers : refusal_of (slice_set hi_elf 44 0x02) ≡ None
unfolding refusal_of u16_at u32_at
two_headers = refl

-- no page is mapped
pub no_headers : refusal_of (slice_set hi_elf 44 0x00) ≡ Some Entry
unfolding refusal_of u16_at u32_at
no_headers = refl

-- type 2 is PT_DYNAMIC
pub a_dynamic_header : refusal_of (slice_set hi_elf 52 0x02) ≡ Some (Dynamic 0)
unfolding refusal_of u16_at u32_at
a_dynamic_header = refl

-- type 3 is PT_INTERP
pub an_interpreter : refusal_of (slice_set hi_elf 52 0x03) ≡ Some (Dynamic 0)
unfolding refusal_of u16_at u32_at
an_interpreter = refl

-- the segment's 35 bytes end at 119
pub one_byte_less : refusal_of (take 118 hi_elf) ≡ Some (ShortSegment 0)
unfolding refusal_of u16_at u32_at
one_byte_less = refl

-- 34 bytes of memory for 35 of the file
pub less_memory_than_bytes : refusal_of (slice_set hi_elf 72 0x22) ≡ Some (ShortSegment 0)
unfolding refusal_of u16_at u32_at
less_memory_than_bytes = refl

-- address 0 is below 0x1000
pub at_address_zero : refusal_of (slice_set hi_elf 62 0x00) ≡ Some (Outside 0)
unfolding refusal_of u16_at u32_at
at_address_zero = refl

-- 0x400001 bytes from 0x10000 on touch 1,025 pages
pub more_pages_than_1024 :
    refusal_of (slice_set (slice_set (slice_set (slice_set hi_elf 72 0x01) 73 0x00) 74 0x40) 75 0x00)
    ≡ Some (TooManyPages 1025)
unfolding refusal_of u16_at u32_at
more_pages_than_1024 = refl

-- 0x10002 isn't a multiple of 4
pub a_misaligned_start : refusal_of (slice_set hi_elf 24 0x02) ≡ Some Entry
unfolding refusal_of u16_at u32_at
a_misaligned_start = refl

-- no segment touches the page of 0x11000
pub a_start_on_no_page : refusal_of (slice_set hi_elf 25 0x10) ≡ Some Entry
unfolding refusal_of u16_at u32_at
a_start_on_no_page = refl

-- the rights are R and W
pub a_start_without_x : refusal_of (slice_set hi_elf 76 0x06) ≡ Some Entry
unfolding refusal_of u16_at u32_at
a_start_without_x = refl

-- the flags' bits above R aren't looked at
pub no_rights_above_x_w_r : image_pages (slice_set hi_elf 76 0xff) ≡ record { number = 16; permission = 7 } ∷ []
unfolding image_pages u16_at u32_at
no_rights_above_x_w_r = refl

-- the headers of a file that clang and lld 19 wrote for a C program, as `readelf -l` shows them: a header of the table
-- itself, three loadable ones and one of the stack; zeros stand for its code and the rest, up to the offset of the last
-- segment
abbrev pub linked_elf : List ℕ
linked_elf =
    (0x7f ∷ 0x45 ∷ 0x4c ∷ 0x46 ∷ 0x01 ∷ 0x01 ∷ 0x01 ∷ 0x00 ∷ 0x00 ∷ 0x00 ∷ 0x00 ∷ 0x00 ∷ 0x00 ∷ 0x00 ∷ 0x00 ∷ 0x00 ∷
    0x02 ∷ 0x00 ∷ 0xf3 ∷ 0x00 ∷ 0x01 ∷ 0x00 ∷ 0x00 ∷ 0x00 ∷ 0x1c ∷ 0x11 ∷ 0x01 ∷ 0x00 ∷ 0x34 ∷ 0x00 ∷ 0x00 ∷ 0x00 ∷
    0x94 ∷ 0x11 ∷ 0x00 ∷ 0x00 ∷ 0x00 ∷ 0x00 ∷ 0x00 ∷ 0x00 ∷ 0x34 ∷ 0x00 ∷ 0x20 ∷ 0x00 ∷ 0x05 ∷ 0x00 ∷ 0x28 ∷ 0x00 ∷
    0x09 ∷ 0x00 ∷ 0x07 ∷ 0x00 ∷ 0x06 ∷ 0x00 ∷ 0x00 ∷ 0x00 ∷ 0x34 ∷ 0x00 ∷ 0x00 ∷ 0x00 ∷ 0x34 ∷ 0x00 ∷ 0x01 ∷ 0x00 ∷
    0x34 ∷ 0x00 ∷ 0x01 ∷ 0x00 ∷ 0xa0 ∷ 0x00 ∷ 0x00 ∷ 0x00 ∷ 0xa0 ∷ 0x00 ∷ 0x00 ∷ 0x00 ∷ 0x04 ∷ 0x00 ∷ 0x00 ∷ 0x00 ∷
    0x04 ∷ 0x00 ∷ 0x00 ∷ 0x00 ∷ 0x01 ∷ 0x00 ∷ 0x00 ∷ 0x00 ∷ 0x00 ∷ 0x00 ∷ 0x00 ∷ 0x00 ∷ 0x00 ∷ 0x00 ∷ 0x01 ∷ 0x00 ∷
    0x00 ∷ 0x00 ∷ 0x01 ∷ 0x00 ∷ 0xd4 ∷ 0x00 ∷ 0x00 ∷ 0x00 ∷ 0xd4 ∷ 0x00 ∷ 0x00 ∷ 0x00 ∷ 0x04 ∷ 0x00 ∷ 0x00 ∷ 0x00 ∷
    0x00 ∷ 0x10 ∷ 0x00 ∷ 0x00 ∷ 0x01 ∷ 0x00 ∷ 0x00 ∷ 0x00 ∷ 0xd4 ∷ 0x00 ∷ 0x00 ∷ 0x00 ∷ 0xd4 ∷ 0x10 ∷ 0x01 ∷ 0x00 ∷
    0xd4 ∷ 0x10 ∷ 0x01 ∷ 0x00 ∷ 0x14 ∷ 0x04 ∷ 0x00 ∷ 0x00 ∷ 0x14 ∷ 0x04 ∷ 0x00 ∷ 0x00 ∷ 0x05 ∷ 0x00 ∷ 0x00 ∷ 0x00 ∷
    0x00 ∷ 0x10 ∷ 0x00 ∷ 0x00 ∷ 0x01 ∷ 0x00 ∷ 0x00 ∷ 0x00 ∷ 0x00 ∷ 0x10 ∷ 0x00 ∷ 0x00 ∷ 0x00 ∷ 0x30 ∷ 0x01 ∷ 0x00 ∷
    0x00 ∷ 0x30 ∷ 0x01 ∷ 0x00 ∷ 0x00 ∷ 0x00 ∷ 0x00 ∷ 0x00 ∷ 0x18 ∷ 0x04 ∷ 0x00 ∷ 0x00 ∷ 0x06 ∷ 0x00 ∷ 0x00 ∷ 0x00 ∷
    0x00 ∷ 0x10 ∷ 0x00 ∷ 0x00 ∷ 0x51 ∷ 0xe5 ∷ 0x74 ∷ 0x64 ∷ 0x00 ∷ 0x00 ∷ 0x00 ∷ 0x00 ∷ 0x00 ∷ 0x00 ∷ 0x00 ∷ 0x00 ∷
    0x00 ∷ 0x00 ∷ 0x00 ∷ 0x00 ∷ 0x00 ∷ 0x00 ∷ 0x00 ∷ 0x00 ∷ 0x00 ∷ 0x00 ∷ 0x00 ∷ 0x00 ∷ 0x06 ∷ 0x00 ∷ 0x00 ∷ 0x00 ∷
    0x00 ∷ 0x00 ∷ 0x00 ∷ 0x00 ∷ []) ++ replicate 3884 0

-- the linker's file is sound
pub a_linked_file_is_accepted : is_image linked_elf ≡ true
unfolding is_image refusal_of u16_at u32_at
a_linked_file_is_accepted = refl

-- `readelf -l`: R from 0x10000, R E from 0x110d4, RW of 1,048 zeros from 0x13000
pub a_linked_file_has_three_pages :
    image_pages linked_elf ≡ record { number = 16; permission = 4 } ∷ record { number = 17; permission = 5 }
    ∷ record { number = 19; permission = 6 } ∷ []
unfolding image_pages u16_at u32_at
a_linked_file_has_three_pages = refl

-- code moved to 0x100d4, after the read-only bytes: R and R X together
pub a_shared_page_has_all_rights :
    image_pages (slice_set linked_elf 125 0x00) ≡ record { number = 16; permission = 5 }
    ∷ record { number = 19; permission = 6 } ∷ []
unfolding image_pages u16_at u32_at
a_shared_page_has_all_rights = refl

-- code moved to 0x10054, into the read-only bytes: the second and the third header
pub two_segments_at_one_address : refusal_of (slice_set (slice_set linked_elf 125 0x00) 124 0x54) ≡ Some (Overlap 1 2)
unfolding refusal_of u16_at u32_at
two_segments_at_one_address = refl
