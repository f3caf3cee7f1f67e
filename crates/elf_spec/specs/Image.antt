-- What an accepted file starts as: its pages with their access rights, their bytes, and the entry point.
use Rattle.std.specs.Prelude.{ℕ, ◌≡◌, ◌+◌, ◌*◌, ◌-◌, Bool, nat_lt, List, map, find, slice_index, Option, Some, None, is_none, Any, if◌then◌else◌}
use Rattle.std.specs.List.{range_with_len}
use Rattle.std.specs.Int.{bit_at}
use Rattle.elf_spec.specs.Header.{ProgramHeader, e_entry, segments}
use Rattle.elf_spec.specs.Segments.{page_size, has_address, page_numbers, page_permission}
use Rattle.elf_spec.specs.Refusals.{refusal_of}
use Rattle.memory_spec.specs.Pages.{Mapped}

-- one of the pages has this number and the right of this bit: 0 is X, 1 is W, 2 is R (System V gABI, ch. 5, Segment
-- Permissions)
abbrev pub HasPageWith : ℕ → ℕ → List Mapped → Type 0
HasPageWith bit number pages = Any (λ page. (page.number ≡ number) × (bit_at page.permission bit ≡ 1)) pages

-- the pages of an image, ascending: each page that a segment touches (System V gABI, ch. 5, Program Loading)
unfoldable pub image_pages : List ℕ → List Mapped
image_pages bytes =
    map (λ number. record { number = number; permission = page_permission (segments bytes) number })
    (page_numbers (segments bytes))

-- the file's byte for an address of a segment, or zero past the segment's bytes in the file or without a segment
-- (System V gABI, ch. 5, Program Header)
abbrev pub segment_byte : List ℕ → Option ProgramHeader → ℕ → ℕ
segment_byte bytes None address = 0
segment_byte bytes (Some segment) address =
    if nat_lt (address - segment.vaddr) segment.filesz
    then slice_index bytes (segment.offset + (address - segment.vaddr))
    else 0

-- the byte of an image at an address: that of the first segment that has the address, else zero (System V gABI, ch. 5,
-- Program Loading)
unfoldable pub image_byte : List ℕ → ℕ → ℕ
image_byte bytes address = segment_byte bytes (find (λ segment. has_address segment address) (segments bytes)) address

-- the bytes of the page of this number (System V gABI, ch. 5, Program Loading)
unfoldable pub image_page : List ℕ → ℕ → List ℕ
image_page bytes number = map (image_byte bytes) (range_with_len (page_size * number) page_size)

-- the bytes of an image, page by page (System V gABI, ch. 5, Program Loading)
unfoldable pub image_memory : List ℕ → List (List ℕ)
image_memory bytes = map (λ page. image_page bytes page.number) (image_pages bytes)

-- the address at which an image starts (System V gABI, ch. 4, ELF Header)
unfoldable pub entry_of : List ℕ → ℕ
entry_of bytes = e_entry bytes

-- the file is accepted
unfoldable pub is_image : List ℕ → Bool
is_image bytes = is_none (refusal_of bytes)
