-- Worked examples of files that two refusals fit: the earlier one in the list is the answer. And of a segment that is
-- longer in memory than in the file.
use Rattle.std.proofs.Common.{◌≡◌, ℕ, List, [], ◌∷◌, ◌++◌, Some, None, slice_set, map, refl}
use Rattle.elf_spec.specs.declared.Refusal.TheVariants.{NotElf, NotElf32, NotExec, NotRiscv, Compressed, EntrySize, ShortTable, Dynamic, ShortSegment, Outside, Overlap, TooManyPages, Entry}
use Rattle.elf_spec.specs.Fields.{u16_at, u32_at}
use Rattle.elf_spec.specs.Refusals.{outside, refusal_of}
use Rattle.elf_spec.specs.Image.{image_pages, image_byte}
use Rattle.elf_spec.proofs.Examples.{hi_header, hi_program_header, hi_elf, linked_elf}

-- another magic number and class 2
pub magic-before-class : refusal_of (slice_set (slice_set hi_elf 0 0) 4 2) ≡ Some NotElf
unfolding refusal_of u16_at u32_at
magic-before-class = refl

-- class 2 and type 3
pub class-before-type : refusal_of (slice_set (slice_set hi_elf 4 2) 16 3) ≡ Some NotElf32
unfolding refusal_of u16_at u32_at
class-before-type = refl

-- byte order 2 is the highest byte first
pub byte_order : refusal_of (slice_set hi_elf 5 2) ≡ Some NotElf32
unfolding refusal_of u16_at u32_at
byte_order = refl

-- the identification has version 1 alone
pub identification_version : refusal_of (slice_set hi_elf 6 0) ≡ Some NotElf32
unfolding refusal_of u16_at u32_at
identification_version = refl

-- type 3 and machine 244
pub type-before-machine : refusal_of (slice_set (slice_set hi_elf 16 3) 18 0xf4) ≡ Some NotExec
unfolding refusal_of u16_at u32_at
type-before-machine = refl

-- machine 244 and compressed code
pub machine-before-flags : refusal_of (slice_set (slice_set hi_elf 18 0xf4) 36 1) ≡ Some NotRiscv
unfolding refusal_of u16_at u32_at
machine-before-flags = refl

-- compressed code and a header size of 33
pub flags-before-entry_size : refusal_of (slice_set (slice_set hi_elf 36 1) 42 0x21) ≡ Some Compressed
unfolding refusal_of u16_at u32_at
flags-before-entry_size = refl

-- a header size of 33, and three headers of which the third is cut off
pub entry_size-before-table : refusal_of (slice_set (slice_set hi_elf 42 0x21) 44 3) ≡ Some EntrySize
unfolding refusal_of u16_at u32_at
entry_size-before-table = refl

-- without program headers their size is not looked at
pub entry_size-of_no_headers : refusal_of (slice_set (slice_set hi_elf 42 0x21) 44 0) ≡ Some Entry
unfolding refusal_of u16_at u32_at
entry_size-of_no_headers = refl

-- a dynamic header, and a third that is cut off
pub table-before-dynamic : refusal_of (slice_set (slice_set hi_elf 44 3) 52 2) ≡ Some (ShortTable 2)
unfolding refusal_of u16_at u32_at
table-before-dynamic = refl

-- the header of a file with two program headers, from 52 on
abbrev pub two_header : List ℕ
two_header = slice_set hi_header 44 0x02

-- a first header whose bytes are cut off and a second that is dynamic
pub dynamic-before-short :
    refusal_of (two_header ++ hi_program_header ++ (slice_set hi_program_header 0 2)) ≡ Some (Dynamic 1)
unfolding refusal_of u16_at u32_at
dynamic-before-short = refl

-- a first segment at address 0 and a second whose bytes are cut off
pub short-before-outside :
    refusal_of (two_header ++ (slice_set (slice_set hi_program_header 16 0) 10 0) ++ hi_program_header)
    ≡ Some (ShortSegment 1)
unfolding refusal_of u16_at u32_at
short-before-outside = refl

-- two segments at one address that is below 0x1000
pub outside-before-overlap :
    refusal_of
    (two_header ++ (slice_set (slice_set hi_program_header 16 0) 10 0)
    ++ (slice_set (slice_set hi_program_header 16 0) 10 0)) ≡ Some (Outside 0)
unfolding refusal_of u16_at u32_at
outside-before-overlap = refl

-- a segment of 35 bytes from 0xBFFFFFDE on ends one byte above 0xC0000000
pub outside-high :
    refusal_of (slice_set (slice_set (slice_set (slice_set hi_elf 60 0xde) 61 0xff) 62 0xff) 63 0xbf) ≡ Some (Outside 0)
unfolding refusal_of u16_at u32_at
outside-high = refl

-- from 0xBFFFFFDD on it ends at 0xC0000000, which is inside
pub inside-high : outside (slice_set (slice_set (slice_set (slice_set hi_elf 60 0xdd) 61 0xff) 62 0xff) 63 0xbf) ≡ None
unfolding u16_at u32_at
inside-high = refl

-- a loadable header without memory is no segment, wherever it lies
pub empty-outside :
    refusal_of
    (two_header ++ (slice_set hi_program_header 16 0)
    ++ (slice_set (slice_set (slice_set hi_program_header 16 0) 10 0) 20 0)) ≡ None
unfolding refusal_of u16_at u32_at
empty-outside = refl

-- two segments at one address that touch 1,025 pages
pub overlap-before-pages :
    refusal_of
    (two_header ++ (slice_set (slice_set (slice_set hi_program_header 16 0) 20 1) 22 0x40)
    ++ (slice_set (slice_set (slice_set hi_program_header 16 0) 20 1) 22 0x40)) ≡ Some (Overlap 0 1)
unfolding refusal_of u16_at u32_at
overlap-before-pages = refl

-- a segment that begins where another ends shares no address with it
pub touching-segments :
    refusal_of
    (two_header ++ (slice_set hi_program_header 16 0) ++ (slice_set (slice_set hi_program_header 16 0) 8 0x23))
    ≡ None
unfolding refusal_of u16_at u32_at
touching-segments = refl

-- 1,025 pages, and a start that is no multiple of 4
pub pages-before-entry :
    refusal_of (slice_set (slice_set (slice_set (slice_set (slice_set hi_elf 24 2) 72 1) 73 0) 74 0x40) 75 0)
    ≡ Some (TooManyPages 1025)
unfolding refusal_of u16_at u32_at
pages-before-entry = refl

-- 1,024 pages are allowed
pub pages-1024 : refusal_of (slice_set (slice_set (slice_set (slice_set hi_elf 72 0) 73 0) 74 0x40) 75 0) ≡ None
unfolding refusal_of u16_at u32_at
pages-1024 = refl

-- past its bytes in the file a segment is zero, even if the file continues
pub memory_tail :
    map (image_byte (slice_set (hi_elf ++ 9 ∷ 9 ∷ []) 72 0x25)) (0x10022 ∷ 0x10023 ∷ 0x10024 ∷ []) ≡ 0x0a ∷ 0 ∷ 0 ∷ []
unfolding image_byte u16_at u32_at
memory_tail = refl

-- a segment at 0x1000 is inside, and one at 0xFFF is not
pub inside-low : outside (slice_set (slice_set hi_elf 61 0x10) 62 0x00) ≡ None
unfolding u16_at u32_at
inside-low = refl

pub outside-low : outside (slice_set (slice_set (slice_set hi_elf 60 0xff) 61 0x0f) 62 0x00) ≡ Some (Outside 0)
unfolding u16_at u32_at
outside-low = refl

-- a page that one segment may read and another execute: the rights are united, neither is dropped
pub shared_page-united :
    image_pages (slice_set (slice_set linked_elf 125 0x00) 140 0x01) ≡ record { number = 16; permission = 5 }
    ∷ record { number = 19; permission = 6 } ∷ []
unfolding image_pages u16_at u32_at
shared_page-united = refl
