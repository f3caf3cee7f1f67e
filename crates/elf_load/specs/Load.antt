-- What the loader returns for a file.
use Rattle.std.specs.Prelude.{ℕ, ◌≡◌, true, List, Some, ⊤}
use Rattle.elf_load.specs.declared.loader.Image.{Image}
use Rattle.elf_load.specs.declared.loader.LoadError.{LoadError}
use Rattle.elf_load.specs.declared.loader.LoadError.TheVariants.{Refused, NoMemory}
use Rattle.elf_spec.specs.Refusals.{refusal_of}
use Rattle.elf_spec.specs.Image.{image_pages, image_memory, entry_of, is_image}

-- The file is accepted, and this is its image. (System V gABI, ch. 5, Program Loading)
pub record IsImageOf (bytes : List ℕ) (image : Image) : Type 0 where
  pub accepted : is_image bytes ≡ true
  pub map : image.map ≡ image_pages bytes
  pub pages : image.pages ≡ image_memory bytes
  pub start : image.entry ≡ entry_of bytes

-- The file has this refusal. If the host's memory ran out, nothing is said of the file.
abbrev pub Refuses : List ℕ → LoadError → Type 0
Refuses bytes (Refused refusal) = refusal_of bytes ≡ Some refusal
Refuses bytes NoMemory = ⊤
