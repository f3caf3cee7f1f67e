-- A table of the slots of pages, by blocks of 4,096 page numbers.
use Rattle.std.specs.Prelude.{◌≡◌, ℕ, ◌+◌, ◌/◌, ◌%◌, ◌<◌, ◌≤◌, suc, List, length, slice_index, slice_index_or}
use Rattle.memory_spec.specs.Pages.{Mapped, unmapped}

-- What a table has for a page number: one more than its slot, or 0 if the page isn't listed.
abbrev pub place_of : List ℕ → List ℕ → ℕ → ℕ
place_of starts places number = slice_index places (slice_index starts (number / 4096) + number % 4096)

-- A table of these pages. The count of the places that are used is a multiple of 4,096 (`even`). Each block begins at a
-- multiple of 4,096 among them; only blocks that begin at 0 have the same places. The first 4,096 places are 0, and so
-- are all unused ones. If a place gives a slot, the page in it has the place's number.
pub record IsTable (pages : List Mapped) (starts places : List ℕ) (used : ℕ) : Type 0 where
  pub blocks : length starts ≡ 256
  pub count : length places ≡ 32768
  pub room : used ≤ 32768
  pub even : used % 4096 ≡ 0
  pub whole : (block : ℕ) → slice_index starts block % 4096 ≡ 0
  pub inside : (block : ℕ) → slice_index starts block + 4096 ≤ used
  pub apart : (a b : ℕ) → slice_index starts a ≡ slice_index starts b → 0 < slice_index starts a → a ≡ b
  pub free : (place : ℕ) → place < 4096 → slice_index places place ≡ 0
  pub unused : (place : ℕ) → used ≤ place → slice_index places place ≡ 0
  pub mapped : (number slot : ℕ) → place_of starts places number ≡ suc slot → slot < length pages
  pub numbered :
      (number slot : ℕ) → place_of starts places number ≡ suc slot
      → (slice_index_or pages slot unmapped).number ≡ number
