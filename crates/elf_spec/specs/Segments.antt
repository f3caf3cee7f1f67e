-- The memory that segments take: their addresses, the pages that these lie on, and what may be done there.
use Rattle.std.specs.Prelude.{ℕ, ◌≡◌, ◌+◌, ◌-◌, ◌/◌, ◌%◌, max, Bool, true, ◌&&◌, nat_le, nat_lt, List, map, filter, fold, bit_or, Any}
use Rattle.std.specs.List.{range_with_len, list_any}
use Rattle.elf_spec.specs.Header.{ProgramHeader}

-- the number of bytes of a page
abbrev pub page_size : ℕ
page_size = 4096

-- the address lies in the segment (System V gABI, ch. 5, Program Header)
abbrev pub has_address : ProgramHeader → ℕ → Bool
has_address segment address = nat_le segment.vaddr address && nat_lt address (segment.vaddr + segment.memsz)

-- two segments share an address
abbrev pub shares_address : ProgramHeader → ProgramHeader → Bool
shares_address one other = nat_lt one.vaddr (other.vaddr + other.memsz) && nat_lt other.vaddr (one.vaddr + one.memsz)

-- the number of the page on which the segment begins
abbrev pub first_page : ProgramHeader → ℕ
first_page segment = segment.vaddr / page_size

-- the number of the page on which the segment's last byte lies
abbrev pub last_page : ProgramHeader → ℕ
last_page segment = (segment.vaddr + segment.memsz - 1) / page_size

-- the segment touches the page of this number
abbrev pub touches : ℕ → ProgramHeader → Bool
touches number segment = nat_le (first_page segment) number && nat_le number (last_page segment)

-- a segment of the list has an address on the page of this number
abbrev pub IsTouched : List ProgramHeader → ℕ → Type 0
IsTouched list number =
    Any (λ segment. (address : ℕ) × (has_address segment address ≡ true) × (address / page_size ≡ number)) list

-- the number of the highest page that a segment touches
abbrev pub highest_page : List ProgramHeader → ℕ
highest_page list = fold max 0 (map last_page list)

-- the numbers of the pages that a segment touches, ascending (System V gABI, ch. 5, Program Loading)
abbrev pub page_numbers : List ProgramHeader → List ℕ
page_numbers list = filter (λ number. list_any (touches number) list) (range_with_len 0 (highest_page list + 1))

-- a segment's access rights: X 1, W 2, R 4 (System V gABI, ch. 5, Segment Permissions)
abbrev pub segment_permission : ProgramHeader → ℕ
segment_permission segment = segment.flags % 8

-- a page's access rights: those of all segments that touch it together (System V gABI, ch. 5, Segment Permissions)
abbrev pub page_permission : List ProgramHeader → ℕ → ℕ
page_permission list number = fold bit_or 0 (map segment_permission (filter (touches number) list))
