-- What the image of a guest's file holds.
use Rattle.std.proofs.Common.{◌≡◌, ℕ, ◌+◌, ◌-◌, ◌*◌, ◌≤◌, Bool, true, false, cond, ◌&&◌, nat_lt, nat_le, List, length, find, map, slice_index, Some, None, refl, ap, ◌∙◌, arith}
use Rattle.std.specs.List.{range_with_len}
use Rattle.memory_spec.specs.Pages.{Mapped}
use Rattle.elf_spec.specs.Header.{ProgramHeader}
use Rattle.elf_spec.specs.Segments.{has_address, page_numbers, page_permission}
use Rattle.elf_spec.specs.Image.{image_pages, image_byte, image_page, image_memory, segment_byte, entry_of}
use Rattle.rv_asm.specs.File.{guest_file}
use Rattle.rv_asm.specs.Guest.{IsGuest, guest_pages, guest_memory, byte_from}
use Rattle.rv_asm.proofs.Headers.{guest_segment, byte-file, entry-file}
use Rattle.rv_asm.proofs.Pages.{mapped, pages-one}
use Rattle.rv_asm.proofs.Accepted.{Fits, base_fits, file, one_segment, accepted}

-- the same addresses, by the segment's bytes and by their place
same_place :
    (base filesz memsz address : ℕ) → filesz ≤ memsz
    → ((nat_le base address && nat_lt address (base + memsz)) && nat_lt (address - base) filesz)
    ≡ (nat_le base address && nat_lt address (base + filesz))
same_place base filesz memsz address within = grind arith

-- the byte that a search for one segment gives
found :
    (base memsz address : ℕ) (bytes : List ℕ) (b : Bool)
    → segment_byte (file base (length bytes) memsz bytes)
    (cond b (Some (guest_segment base (length bytes) memsz)) None) address
    ≡ cond (b && nat_lt (address - base) (length bytes))
    (slice_index (file base (length bytes) memsz bytes) (84 + (address - base))) 0
found base memsz address bytes true = refl
found base memsz address bytes false = refl

module _ (base memsz : ℕ) (bytes : List ℕ) (fits : Fits base (length bytes) memsz) where
  abbrev whole : List ℕ
  whole = file base (length bytes) memsz bytes

  abbrev one : ProgramHeader
  one = guest_segment base (length bytes) memsz

  pub pages-loaded : image_pages whole ≡ guest_pages base memsz
  unfolding image_pages
  pages-loaded =
      ap (λ (list : List ProgramHeader). map (λ number. mapped number (page_permission list number))
      (page_numbers list)) (one_segment base (length bytes) memsz bytes fits)
      ∙ pages-one base (length bytes) memsz fits.page fits.some

  pub bytes-loaded : (address : ℕ) → image_byte whole address ≡ byte_from base bytes address
  unfolding image_byte
  bytes-loaded address =
      let here = nat_le base address && nat_lt address (base + length bytes) in
      ap (λ (list : List ProgramHeader). segment_byte whole (find (λ segment. has_address segment address) list)
      address) (one_segment base (length bytes) memsz bytes fits)
      ∙ found base memsz address bytes (has_address one address)
      ∙ ap (λ b. cond b (slice_index whole (84 + (address - base))) 0)
      (same_place base (length bytes) memsz address fits.within)
      ∙ ap (λ byte. cond here byte 0) (byte-file base (length bytes) memsz bytes (address - base))

  pub memory-loaded : image_memory whole ≡ guest_memory base bytes memsz
  unfolding image_memory image_page
  memory-loaded =
      λ i. map (λ (page : Mapped). map (λ address. bytes-loaded address i) (range_with_len (4096 * page.number) 4096))
      (pages-loaded i)

  pub start-loaded : entry_of whole ≡ base
  unfolding entry_of
  start-loaded = entry-file base (length bytes) memsz bytes (base_fits base (length bytes) memsz fits)

-- a guest's file is a guest
pub guest-loaded :
    (base bss : ℕ) (bytes : List ℕ) → Fits base (length bytes) (length bytes + bss)
    → IsGuest base bytes bss (guest_file base bytes bss)
unfolding guest_file
guest-loaded base bss bytes fits =
    let memsz = length bytes + bss in
    record {
      accepted = accepted base (length bytes) memsz bytes fits refl;
      pages = pages-loaded base memsz bytes fits;
      bytes_at = bytes-loaded base memsz bytes fits;
      memory = memory-loaded base memsz bytes fits;
      start = start-loaded base memsz bytes fits;
    }
