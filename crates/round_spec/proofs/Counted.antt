-- No more entries are executed than steps are reached: each has an old step of its own.
use Rattle.std.proofs.Common.{◌≡◌, ◌≢◌, ◌<◌, ◌≤◌, ◌+◌, ℕ, zero, suc, Bool, true, false, ◌&&◌, not, eqb, cond, List, [], ◌∷◌, length, map, get_or, count_by, refl, ap, sym, ◌∙◌, subst, inl, inr, arith}
use Rattle.std.proofs.lemmas.Bool.{cases_eq, eq-eqb}
use Rattle.std.proofs.lemmas.Bool.Decides.{nat_tests}
use Rattle.std.proofs.lemmas.List.Sums.{sum_by-cons}
use Rattle.std.specs.List.{range_with_len}
use Rattle.history_spec.specs.Ancestors.{count_below}
use Rattle.history_spec.proofs.Lists.{and-left, is_or_not}
use Rattle.history_spec.proofs.Clocks.{count-le}
use Rattle.round_spec.proofs.Placed.{count-shift, count-like}

pub count-list :
    {A : Type 0} → (p : A → Bool) (d : A) (xs : List A)
    → count_by p xs ≡ count_below (λ i. p (get_or xs i d)) (length xs)
count-list p d [] = refl
count-list p d (x ∷ xs) =
    let rest = count-list p d xs in
    let cons = sum_by-cons (λ (y : _). cond (p y) 1 0) x xs in
    let shift = count-shift (λ i. p (get_or (x ∷ xs) i d)) (length xs) in
    let all : count_by p (x ∷ xs) ≡ cond (p x) 1 0 + count_by p xs = cons in
    let below : count_below (λ i. p (get_or (x ∷ xs) i d)) (suc (length xs))
    ≡ cond (p x) 1 0 + count_below (λ i. p (get_or xs i d)) (length xs) = shift in
    omega arith

pub count-range :
    (f : ℕ → Bool) (k n : ℕ) → count_by (λ (b : Bool). b) (map f (range_with_len k n)) ≡ count_below (λ i. f (k + i)) n
count-range f k zero = refl
count-range f k (suc n) =
    let rest = count-range f (k + 1) n in
    let cons = sum_by-cons (λ (b : Bool). cond b 1 0) (f k) (map f (range_with_len (k + 1) n)) in
    let shift = count-shift (λ i. f (k + i)) n in
    let zero_is : f (k + 0) ≡ f k = ap f (omega arith) in
    let more = count-like (λ i. f (k + 1 + i)) (λ i. f (k + suc i)) n (λ i. ap f (omega arith)) in
    let all : count_by (λ (b : Bool). b) (map f (range_with_len k (suc n)))
    ≡ cond (f k) 1 0 + count_by (λ (b : Bool). b) (map f (range_with_len (k + 1) n)) = cons in
    let below : count_below (λ i. f (k + i)) (suc n) ≡ cond (f k) 1 0 + count_below (λ i. f (k + suc i)) n =
    shift ∙ ap (λ (b : Bool). cond b 1 0 + count_below (λ i. f (k + suc i)) n) zero_is in
    omega arith

-- without one of the numbers that pass a test, at least one less is counted
count-without :
    (q : ℕ → Bool) (k m : ℕ) → k < m → q k ≡ true → suc (count_below (λ i. q i && not (eqb i k)) m) ≤ count_below q m
count-without q k zero below is = absurd (omega arith)
count-without q k (suc m) below is =
    elim (cases_eq k m) [
      | inl same ↦
          let own : eqb m k ≡ true = eq-eqb m k (sym same) in
          let one : q m ≡ true = ap q (sym same) ∙ is in
          let fewer = count-le (λ i. q i && not (eqb i k)) q m (λ i less both. and-left (q i) (not (eqb i k)) both) in
          rw (own, one) (omega arith)
      | inr other ↦
          let isnt : eqb m k ≡ false = grind (arith, nat_tests) in
          let rest = count-without q k m (omega arith) is in
          let here : (q m && not false) ≡ q m = and-true (q m) in
          rw (isnt, here) (omega arith)
    ]
  where
    and-true : (b : Bool) → (b && true) ≡ b
    and-true true = refl
    and-true false = refl

-- a number below another that passes a test, matched with a number
pub record IsMatch (q : ℕ → Bool) (R : ℕ → ℕ → Type 0) (m i : ℕ) : Type 0 where
  pub at : ℕ
  pub below : at < m
  pub is : q at ≡ true
  pub matches : R i at

pub count-inject :
    (R : ℕ → ℕ → Type 0) (p : ℕ → Bool) (m n : ℕ) (q : ℕ → Bool)
    → ((i : ℕ) → i < n → p i ≡ true → IsMatch q R m i)
    → ((i k j : ℕ) → i < k → k < n → R i j → R k j → ⊥)
    → count_below p n ≤ count_below q m
count-inject R p m zero q match apart = omega arith
count-inject R p m (suc n) q match apart =
    elim (is_or_not (p n)) [
      | inr none ↦
          let rest =
          count-inject R p m n q (λ i less is. match i (omega arith) is)
          (λ i k j less low one two. apart i k j less (omega arith) one two) in
          rw none (omega arith)
      | inl is ↦
          let last : IsMatch q R m n = match n (omega arith) is in
          let rest =
          count-inject R p m n (λ i. q i && not (eqb i last.at))
          (λ i less is_i.
          let found : IsMatch q R m i = match i (omega arith) is_i in
          let other : found.at ≢ last.at =
          λ e. apart i n last.at less (omega arith) (subst (λ (j : ℕ). R i j) e found.matches) last.matches in
          let isnt : eqb found.at last.at ≡ false = grind (arith, nat_tests) in
          record {
            at = found.at;
            below = found.below;
            is = (let there = found.is in rw (there, isnt) refl);
            matches =
                found.matches;
          })
          (λ i k j less low one two. apart i k j less (omega arith) one two) in
          let fewer = count-without q last.at m last.below last.is in
          rw is (omega arith)
    ]
