-- A slot past a view's end has no bytes, and no read page is without bytes.
use Rattle.std.proofs.Common.{◌≡◌, ℕ, ◌≤◌, List, [], ◌∷◌, length, false, ap, ◌∙◌, refl, arith}
use Rattle.std.proofs.lemmas.List.{get_or_past}
use Rattle.std.specs.Str.{bytes_eq}
use Rattle.memory_spec.specs.Pages.{Memory, page_of}

none_equal : (bytes : List ℕ) → length bytes ≡ 4096 → bytes_eq [] bytes ≡ false
none_equal [] whole = absurd (omega arith)
none_equal (b ∷ bytes) whole = refl

pub no_bytes :
    (view : Memory) (slot : ℕ) (bytes : List ℕ)
    → length view ≤ slot → length bytes ≡ 4096 → bytes_eq (page_of view slot) bytes ≡ false
no_bytes view slot bytes past whole =
    ap (λ (page : List ℕ). bytes_eq page bytes) (get_or_past view slot [] past) ∙ none_equal bytes whole
