-- What the decoded pages of a memory are.
use Rattle.std.specs.Prelude.{◌≡◌, ℕ, ◌<◌, ◌≤◌, ◌⊎◌, true, false, List, length, Option, Some, None, slice_index_or}
use Rattle.memory_spec.specs.declared.TheConstants.{PAGE_NUMBERS}
use Rattle.memory_spec.specs.Pages.{Mapped, Memory, allows, execute_right, page_of, unmapped}
use Rattle.rv_code.specs.Meaning.{Decoded}

-- A mapped page of these bytes was decoded to this: a page with its number and its bytes, or none if it may not be
-- executed, or no address of 32 bits is in it.
abbrev pub IsDecodedAs : Mapped → List ℕ → Option Decoded → Type 0
IsDecodedAs page bytes (Some code) =
    (allows execute_right page.permission ≡ true) × (code.number ≡ page.number) × (code.bytes ≡ bytes)
IsDecodedAs page bytes None = (allows execute_right page.permission ≡ false) ⊎ (PAGE_NUMBERS ≤ page.number)

-- The pages of a memory were decoded, slot by slot.
pub record AreDecoded (map : List Mapped) (memory : Memory) (pages : List (Option Decoded)) : Type 0 where
  pub count : length pages ≡ length map
  pub each : (slot : ℕ) → slot < length map
      → IsDecodedAs (slice_index_or map slot unmapped) (page_of memory slot) (slice_index_or pages slot None)
