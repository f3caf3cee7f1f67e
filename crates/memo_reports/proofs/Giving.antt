-- Which step gave a thunk its view, by a backward search.
use Rattle.std.proofs.Common.{◌≡◌, ◌<◌, ◌≤◌, ℕ, zero, suc, Bool, true, false, ◌&&◌, ◌||◌, not, eqb, leb, List, refl, ap, sym, ◌∙◌, inl, inr, arith}
use Rattle.std.proofs.lemmas.Bool.{cases_eq, cases_lt, eq-eqb, le-leb}
use Rattle.std.proofs.lemmas.Bool.Decides.{nat_tests}
use Rattle.history_spec.specs.Facts.{Fact}
use Rattle.history_spec.specs.Before.{is_in, fact_at, all_below, is_next_at}
use Rattle.history_spec.proofs.Lists.{or-in_left, or-in_right}
use Rattle.round_spec.specs.Reach.{gave_at, giver_end, last_below}

all-pass : (test : ℕ → Bool) (n : ℕ) → ((k : ℕ) → k < n → test k ≡ true) → all_below test n ≡ true
all-pass test zero each = refl
all-pass test (suc n) each =
    let here : test n ≡ true = each n (omega arith) in
    rw here (all-pass test n (λ k less. each k (omega arith)))

all-fail : (test : ℕ → Bool) (n k : ℕ) → k < n → test k ≡ false → all_below test n ≡ false
all-fail test zero k less isnt = absurd (omega arith)
all-fail test (suc n) k less isnt =
    elim (cases_eq k n) [
      | inl same ↦ (let here : test n ≡ false = ap test (sym same) ∙ isnt in rw here refl)
      | inr other ↦ both (test n) (all_below test n) (all-fail test n k (omega arith) isnt)
    ]
  where
    both : (a b : Bool) → b ≡ false → (a && b) ≡ false
    both true b is = is
    both false b is = refl

last-zero : (test : ℕ → Bool) (n : ℕ) → ((g : ℕ) → g < n → test g ≡ false) → last_below test n ≡ 0
last-zero test zero none = refl
last-zero test (suc n) none =
    let here : test n ≡ false = none n (omega arith) in
    rw here (last-zero test n (λ g less. none g (omega arith)))

and-false : (b : Bool) → (b && false) ≡ false
and-false true = refl
and-false false = refl

-- no step from a place up to place i is of i's thread, and none of them gave its view
pub record IsPassed (fs : List Fact) (i end : ℕ) : Type 0 where
  pub within : end ≤ i
  pub apart : (k : ℕ) → end ≤ k → k < i → eqb (fact_at fs k).thread (fact_at fs i).thread ≡ false
  pub same : giver_end fs i ≡ last_below (λ g. gave_at fs g i) end

pub given-here :
    (fs : List Fact) (i e : ℕ) → IsPassed fs i (suc e) → is_in (fact_at fs i).thread (fact_at fs e).given ≡ true
    → suc e ≡ giver_end fs i
given-here fs i e passed given =
    let next : is_next_at fs e i ≡ true =
    all-pass (λ k. leb k e || not (eqb (fact_at fs k).thread (fact_at fs i).thread)) i
    (λ k less. elim (cases_lt e k) [
      | inl late ↦
          (let no = passed.apart k (omega arith) less in
          or-in_right (leb k e) (not (eqb (fact_at fs k).thread (fact_at fs i).thread)) (rw no refl))
      | inr early ↦
          or-in_left (leb k e) (not (eqb (fact_at fs k).thread (fact_at fs i).thread)) (le-leb k e early)
    ]) in
    sym (passed.same ∙ (rw (given, next) refl))

pub own-here :
    (fs : List Fact) (i e : ℕ) → IsPassed fs i (suc e) → is_in (fact_at fs i).thread (fact_at fs e).given ≡ false
    → (fact_at fs e).thread ≡ (fact_at fs i).thread
    → 0 ≡ giver_end fs i
own-here fs i e passed none own =
    let is : eqb (fact_at fs e).thread (fact_at fs i).thread ≡ true =
    eq-eqb (fact_at fs e).thread (fact_at fs i).thread own in
    let earlier : last_below (λ g. gave_at fs g i) e ≡ 0 =
    last-zero (λ g. gave_at fs g i) e
    (λ g less.
    (let late : leb e g ≡ false = grind (arith, nat_tests) in
    let low = passed.within in
    let fails : is_next_at fs g i ≡ false =
    all-fail (λ k. leb k g || not (eqb (fact_at fs k).thread (fact_at fs i).thread)) i e (omega arith)
    (rw (late, is) refl) in
    rw fails (and-false (is_in (fact_at fs i).thread (fact_at fs g).given)))) in
    sym (passed.same ∙ (rw none earlier))
