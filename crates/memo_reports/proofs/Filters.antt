-- Ranges of numbers of which a test passes some.
use Rattle.std.proofs.Common.{◌≡◌, ◌<◌, ◌≤◌, ◌+◌, ℕ, zero, suc, Bool, true, false, cond, List, [], ◌∷◌, map, refl, ap, ap₂, ◌∙◌, inl, inr, arith}
use Rattle.std.specs.List.{filter, range_with_len}
use Rattle.std.proofs.lemmas.Bool.{cases_eq}

pub filter-none :
    (q : ℕ → Bool) (low n : ℕ) → ((p : ℕ) → low ≤ p → p < low + n → q p ≡ false)
    → filter q (range_with_len low n) ≡ []
filter-none q low zero none = refl
filter-none q low (suc n) none =
    let isnt : q low ≡ false = none low (omega arith) (omega arith) in
    rw isnt (filter-none q (low + 1) n (λ p lo hi. none p (omega arith) (omega arith)))

pub filter-same :
    (q r : ℕ → Bool) (low n : ℕ) → ((p : ℕ) → low ≤ p → p < low + n → q p ≡ r p)
    → filter q (range_with_len low n) ≡ filter r (range_with_len low n)
filter-same q r low zero same = refl
filter-same q r low (suc n) same =
    ap₂ (λ (b : Bool) (ps : List ℕ). cond b (low ∷ ps) ps) (same low (omega arith) (omega arith))
    (filter-same q r (low + 1) n (λ p lo hi. same p (omega arith) (omega arith)))

-- the first that passes, and those that pass after it
pub filter-first :
    (q r : ℕ → Bool) (low n first : ℕ)
    → low ≤ first → first < low + n → q first ≡ true
    → ((p : ℕ) → p < first → q p ≡ false)
    → ((p : ℕ) → p ≤ first → r p ≡ false)
    → ((p : ℕ) → first < p → q p ≡ r p)
    → filter q (range_with_len low n) ≡ first ∷ filter r (range_with_len low n)
filter-first q r low zero first lo hi is none gone same = absurd (omega arith)
filter-first q r low (suc n) first lo hi is none gone same =
    elim (cases_eq low first) [
      | inl here ↦
          let one : q low ≡ true = ap q here ∙ is in
          let two : r low ≡ false = gone low (omega arith) in
          let rest = filter-same q r (low + 1) n (λ p l h. same p (omega arith)) in
          rw (one, two) (ap₂ (λ (a : ℕ) (ps : List ℕ). a ∷ ps) here rest)
      | inr other ↦
          let one : q low ≡ false = none low (omega arith) in
          let two : r low ≡ false = gone low (omega arith) in
          rw (one, two) (filter-first q r (low + 1) n first (omega arith) (omega arith) is none gone same)
    ]

pub map-filter-same :
    {A : Type 0} (f g : ℕ → A) (r : ℕ → Bool) (ps : List ℕ) → ((p : ℕ) → r p ≡ true → f p ≡ g p)
    → map f (filter r ps) ≡ map g (filter r ps)
map-filter-same f g r [] same = refl
map-filter-same {A = A} f g r (p ∷ ps) same = here (map-filter-same f g r ps same) (r p) refl
  where
    here :
        map f (filter r ps) ≡ map g (filter r ps) → (b : Bool) → r p ≡ b
        → map f (cond b (p ∷ filter r ps) (filter r ps)) ≡ map g (cond b (p ∷ filter r ps) (filter r ps))
    here rest true is = ap₂ (λ (x : A) (xs : List A). x ∷ xs) (same p is) rest
    here rest false is = rest
