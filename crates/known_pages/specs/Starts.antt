-- Which bytes of an input are on its pages.
use Rattle.std.specs.Prelude.{◌≡◌, ℕ, ◌+◌, ◌-◌, ◌*◌, min, Bool, false, List, length}
use Rattle.std.specs.Simd.Lanes.{chunk}
use Rattle.known_pages.specs.Alike.{is_marked}

-- The bytes of an input that are on its page of a number.
abbrev pub part_of : List ℕ → ℕ → List ℕ
part_of input k =
    chunk (min (length input) (4096 * k)) (min (length input) (4096 * k + 4096) - min (length input) (4096 * k)) input

-- Marks on as many pages: each page that was marked is marked.
pub record HasMore (old new : List Bool) : Type 0 where
  pub count : length new ≡ length old
  pub before : (p : ℕ) → is_marked new p ≡ false → is_marked old p ≡ false
