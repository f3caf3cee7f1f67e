-- Pages in a pool: each has one index.
use Rattle.std.proofs.Common.{◌≡◌, ◌⊎◌, ℕ, suc, ◌^◌, ◌<◌, true, false, List, [], ◌∷◌, length, get_or, drop, eqb, refl, sym, ap, ◌∙◌, arith, inl, inr}
use Rattle.std.specs.Prelude.{bytes_eq, slice_index_or}
use Rattle.std.specs.List.{AllByRecursion}
use Rattle.std.proofs.lemmas.Bool.Decides.{eqb_tells}
use Rattle.memo_spec.specs.Encoding.{AreBytes, index_in}

-- A test of bytes determines whether they are the same.
pub bytes_determine : (xs ys : List ℕ) → ((bytes_eq xs ys ≡ true) × (xs ≡ ys)) ⊎ ((bytes_eq xs ys ≡ false) × (xs ≡ ys → ⊥))
bytes_determine [] [] = inl (refl, refl)
bytes_determine [] (y ∷ ys) = inr (refl, λ e. absurd (omega (arith, ap length e)))
bytes_determine (x ∷ xs) [] = inr (refl, λ e. absurd (omega (arith, ap length e)))
bytes_determine (x ∷ xs) (y ∷ ys) = elim (eqb_tells x y) [
  | inl h ↦ rest (bytes_determine xs ys) h.0 h.1
  | inr h ↦ inr (rw h.0 refl, λ e. h.1 (ap (λ (l : List ℕ). get_or l 0 0) e))
]
  where
    rest : ((bytes_eq xs ys ≡ true) × (xs ≡ ys)) ⊎ ((bytes_eq xs ys ≡ false) × (xs ≡ ys → ⊥)) → eqb x y ≡ true → x ≡ y
        → ((bytes_eq (x ∷ xs) (y ∷ ys) ≡ true) × (x ∷ xs ≡ y ∷ ys))
        ⊎ ((bytes_eq (x ∷ xs) (y ∷ ys) ≡ false) × (x ∷ xs ≡ y ∷ ys → ⊥))
    rest (inl k) t e = inl (rw (t, k.0) refl, cc)
    rest (inr k) t e = inr (rw (t, k.0) refl, λ p. k.1 (ap (drop 1) p))

-- A pool as it is read: its pages have the size of pages, no two are equal, and their number is a word.
pub record IsPool (pool : List (List ℕ)) : Type 0 where
  pub once : (i : ℕ) → i < length pool → index_in pool (slice_index_or pool i []) ≡ i
  pub pages : AllByRecursion (λ (page : List ℕ). (length page ≡ 4096) × AreBytes page) pool
  pub few : length pool < 2 ^ 32

pub index_back : (pool : List (List ℕ)) (page : List ℕ) → index_in pool page < length pool
    → slice_index_or pool (index_in pool page) [] ≡ page
index_back [] page lt = absurd (omega arith)
index_back (p ∷ pool) page lt = elim (bytes_determine page p) [
  | inl h ↦ at_first h.0 h.1
  | inr h ↦ one_more h.0 (index_back pool page)
]
  where
    at_first : bytes_eq page p ≡ true → page ≡ p → slice_index_or (p ∷ pool) (index_in (p ∷ pool) page) [] ≡ page
    at_first h e = rw h (sym e)

    one_more : bytes_eq page p ≡ false
        → (index_in pool page < length pool → slice_index_or pool (index_in pool page) [] ≡ page)
        → slice_index_or (p ∷ pool) (index_in (p ∷ pool) page) [] ≡ page
    one_more h rest =
        let k : index_in (p ∷ pool) page ≡ suc (index_in pool page) = rw h (omega arith) in
        ap (λ (i : ℕ). slice_index_or (p ∷ pool) i []) k ∙ rest (omega (arith, k, lt))
