-- The pages of a pool, and those that were seen.
use Rattle.std.proofs.Common.{◌≡◌, ◌⊎◌, ℕ, Bool, true, false, cond, ◌||◌, List, [], ◌∷◌, ◌++◌, Option, Some, refl, sym, ap, ◌∙◌, inl, inr}
use Rattle.std.specs.Prelude.{bytes_eq, is_some}
use Rattle.memo_spec.specs.Encoding.{has_page}
use Rattle.memo_spec.proofs.Pool.{bytes_determine}

abbrev Piece : Type 0
Piece = List ℕ

same_either_way : (a b : List ℕ) → bytes_eq a b ≡ bytes_eq b a
same_either_way a b = elim (bytes_determine a b) [
  | inl h ↦ ap (λ (x : List ℕ). bytes_eq a x) (sym h.1) ∙ ap (λ (x : List ℕ). bytes_eq x a) h.1
  | inr h ↦ other h.0 h.1 (bytes_determine b a)
]
  where
    other : bytes_eq a b ≡ false → (a ≡ b → ⊥) → ((bytes_eq b a ≡ true) × (b ≡ a))
        ⊎ ((bytes_eq b a ≡ false) × (b ≡ a → ⊥)) → bytes_eq a b ≡ bytes_eq b a
    other e ne (inl k) = absurd (ne (sym k.1))
    other e ne (inr k) = e ∙ sym k.0

or_last : (a b : Bool) → (a || (b || false)) ≡ cond b true a
or_last true true = refl
or_last true false = refl
or_last false true = refl
or_last false false = refl

or_more : (c a b : Bool) → (c || cond b true a) ≡ cond b true (c || a)
or_more true a true = refl
or_more true a false = refl
or_more false a b = refl

-- What a pool has after a page was appended.
pub has_push : (pool : List Piece) (p q : List ℕ) → has_page (pool ++ p ∷ []) q ≡ cond (bytes_eq p q) true (has_page pool q)
has_push [] p q = or_last false (bytes_eq q p) ∙ ap (λ (b : Bool). cond b true false) (same_either_way q p)
has_push (x ∷ pool) p q = ap (λ (b : Bool). bytes_eq q x || b) (has_push pool p q)
    ∙ or_more (bytes_eq q x) (has_page pool q) (bytes_eq p q)

some_of : {X : Type 0} (b : Bool) (w : X) (o : Option X) → is_some (cond b (Some w) o) ≡ cond b true (is_some o)
some_of true w o = refl
some_of false w o = refl

pub knows_more : {X : Type 0} (pool : List Piece) (p q : List ℕ) (w : X) (old new : Option X)
    → is_some old ≡ has_page pool q → new ≡ cond (bytes_eq p q) (Some w) old → is_some new ≡ has_page (pool ++ p ∷ []) q
knows_more pool p q w old new h e = ap is_some e ∙ some_of (bytes_eq p q) w old
    ∙ ap (λ (b : Bool). cond (bytes_eq p q) true b) h ∙ sym (has_push pool p q)
