-- A guest's file as a loader takes it.
use Rattle.std.specs.Prelude.{ℕ, ◌≡◌, ◌+◌, ◌-◌, ◌*◌, ◌/◌, true, ◌&&◌, nat_le, nat_lt, if◌then◌else◌, List, map, length, slice_index}
use Rattle.std.specs.List.{range_with_len}
use Rattle.memory_spec.specs.Pages.{Mapped}
use Rattle.elf_spec.specs.Image.{is_image, image_pages, image_byte, image_memory, entry_of}

-- The number of pages that bytes from a page's first byte on take.
abbrev pub pages_taken : ℕ → ℕ
pages_taken count = (count + 4095) / 4096

-- The pages of that many bytes from a base on, each with all rights. (System V gABI, ch. 5, Segment Permissions)
abbrev pub guest_pages : ℕ → ℕ → List Mapped
guest_pages base count =
    map (λ number. record { number = number; permission = 7 }) (range_with_len (base / 4096) (pages_taken count))

-- The byte at an address: one of these bytes, which start at a base, and a zero elsewhere.
abbrev pub byte_from : ℕ → List ℕ → ℕ → ℕ
byte_from base bytes address =
    if nat_le base address && nat_lt address (base + length bytes) then slice_index bytes (address - base) else 0

-- The memory of a guest, page by page. (System V gABI, ch. 5, Program Loading)
abbrev pub guest_memory : ℕ → List ℕ → ℕ → List (List ℕ)
guest_memory base bytes count =
    map (λ page. map (byte_from base bytes) (range_with_len (4096 * page.number) 4096)) (guest_pages base count)

-- The file is accepted, and it starts as: these bytes at the base, zeros on the rest of the pages of these and of that
-- many zeros, with all rights, and the pc at the base. (System V gABI, ch. 5, Program Loading)
pub record IsGuest (base : ℕ) (bytes : List ℕ) (bss : ℕ) (file : List ℕ) : Type 0 where
  pub accepted : is_image file ≡ true
  pub pages : image_pages file ≡ guest_pages base (length bytes + bss)
  pub bytes_at : (address : ℕ) → image_byte file address ≡ byte_from base bytes address
  pub memory : image_memory file ≡ guest_memory base bytes (length bytes + bss)
  pub start : entry_of file ≡ base
