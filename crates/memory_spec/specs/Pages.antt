-- Pages of 4,096 bytes, what each permits, and a memory as the list of its pages.
use Rattle.std.specs.Prelude.{◌≡◌, ◌<◌, ℕ, ◌/◌, ◌==◌, Bool, true, nat_lt, ◌&&◌, if◌then◌else◌, List, [], ◌∷◌, length, All, replicate, slice_index_or, suc}
use Rattle.std.specs.Int.RustNames.{bit_and}
use Rattle.memory_spec.specs.declared.TheConstants.{PAGE_NUMBERS}

-- A mapped page: its number, which is its address divided by 4,096, and its permission.
pub record Mapped : Type 0 where
  pub number : ℕ
  pub permission : ℕ

-- A permission is a set of these three rights, each a bit. (System V gABI, ch. 5, Program Header, Segment Permissions)
abbrev pub execute_right : ℕ
execute_right = 1

abbrev pub write_right : ℕ
write_right = 2

abbrev pub read_right : ℕ
read_right = 4

-- Whether a permission has a right. (System V gABI, ch. 5, Program Header, Segment Permissions)
abbrev pub allows : ℕ → ℕ → Bool
allows right permission = bit_and permission right == right

-- The pages of a map are addressable: addresses of 32 bits reach each.
abbrev pub AreAddressable : List Mapped → Type 0
AreAddressable map = All (λ page. page.number < PAGE_NUMBERS) map

-- A memory: the bytes of each mapped page, in the order of the map.
abbrev pub Memory : Type 0
Memory = List (List ℕ)

-- The slot of an address: the place in the map of the page that has it, or the map's length if none has.
abbrev pub slot_of : List Mapped → ℕ → ℕ
slot_of [] address = 0
slot_of (page ∷ pages) address = if page.number == address / 4096 then 0 else suc (slot_of pages address)

-- The stand-in for the page of an address that isn't mapped: it permits nothing.
abbrev pub unmapped : Mapped
unmapped = record { number = 0; permission = 0 }

-- The permission of the page of an address.
unfoldable pub permission_at : List Mapped → ℕ → ℕ
permission_at map address = (slice_index_or map (slot_of map address) unmapped).permission

-- The bytes of the page in a slot.
abbrev pub page_of : Memory → ℕ → List ℕ
page_of memory slot = slice_index_or memory slot []

-- One of a thing for each mapped page.
abbrev pub on_each : {A : Type 0} → A → List Mapped → List A
on_each a [] = []
on_each a (page ∷ pages) = a ∷ on_each a pages

-- A page of zeros.
unfoldable pub zero_page : List ℕ
zero_page = replicate 4096 0

-- The pages of a map are in ascending order, each once, and above a number.
abbrev pub ascends_above : ℕ → List Mapped → Bool
ascends_above low [] = true
ascends_above low (page ∷ pages) = nat_lt low page.number && ascends_above page.number pages

-- A memory of a map has one page of 4,096 bytes for each of the map's.
pub record IsMemory (map : List Mapped) (memory : Memory) : Type 0 where
  pub count : length memory ≡ length map
  pub pages : All (λ bytes. length bytes ≡ 4096) memory
