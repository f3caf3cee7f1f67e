-- The bytes of an image are a memory of its pages.
use Rattle.std.proofs.Common.{◌≡◌, ◌*◌, ℕ, List, length}
use Rattle.std.proofs.lemmas.List.{length-map}
use Rattle.std.proofs.lemmas.List.Elements.{All-map}
use Rattle.std.proofs.lemmas.List.FromFn.{length-map-range_with_len}
use Rattle.memory_spec.specs.Pages.{Mapped, IsMemory}
use Rattle.elf_spec.specs.Image.{image_pages, image_memory, image_page, image_byte}

-- a page has 4,096 bytes
length-image_page : (bytes : List ℕ) (number : ℕ) → length (image_page bytes number) ≡ 4096
unfolding image_page
length-image_page bytes number = length-map-range_with_len (image_byte bytes) (4096 * number) 4096

pub IsMemory-image : (bytes : List ℕ) → IsMemory (image_pages bytes) (image_memory bytes)
unfolding image_memory
IsMemory-image bytes =
    record {
      count = length-map (image_pages bytes) _;
      pages =
          All-map (λ (page : List ℕ). length page ≡ 4096) (λ (page : Mapped). image_page bytes page.number)
          (image_pages bytes)
          (λ k d below. length-image_page bytes _);
    }
