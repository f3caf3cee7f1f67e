-- The ancestors of a step among the steps of a thread are the first of them, so a clock determines which they are.
use Rattle.std.proofs.Common.{◌≡◌, ◌<◌, ◌≤◌, ◌+◌, ℕ, zero, suc, Bool, true, false, ◌&&◌, ◌||◌, eqb, ltb, cond, List, refl, ap, sym, ◌∙◌, subst, inl, inr, ◌↔◌, arith}
use Rattle.std.proofs.lemmas.Bool.{cases_eq, eq-eqb, eqb-true}
use Rattle.std.proofs.lemmas.Bool.Decides.{nat_tests}
use Rattle.history_spec.specs.Facts.{Fact}
use Rattle.history_spec.specs.Before.{fact_at, before_at}
use Rattle.history_spec.specs.Ancestors.{any_below, count_below, reaches, is_ancestor, is_up_to, clock_at, number_at}
use Rattle.history_spec.proofs.Lists.{and-left, and-right, or-in_left, or-in_right, is_or_not}

-- a number below another of which a test holds
pub record IsSome (test : ℕ → Bool) (n : ℕ) : Type 0 where
  pub at : ℕ
  pub below : at < n
  pub is : test at ≡ true

pub some-below : (test : ℕ → Bool) (n : ℕ) → any_below test n ≡ true → IsSome test n
some-below test zero some = cc
some-below test (suc n) some = here (test n) refl some (some-below test n)
  where
    here :
        (b : Bool) → test n ≡ b → (b || any_below test n) ≡ true → (any_below test n ≡ true → IsSome test n)
        → IsSome test (suc n)
    here true is h later = record { at = n; below = omega arith; is = is }
    here false is h later =
        let found = later h in record { at = found.at; below = (let below = found.below in omega arith); is = found.is }

pub below-some : (test : ℕ → Bool) (n k : ℕ) → k < n → test k ≡ true → any_below test n ≡ true
below-some test zero k below is = absurd (omega arith)
below-some test (suc n) k below is =
    elim (cases_eq k n) [
      | inl same ↦ or-in_left (test n) (any_below test n) (ap test (sym same) ∙ is)
      | inr other ↦ or-in_right (test n) (any_below test n) (below-some test n k (omega arith) is)
    ]

pub lt-bit : (a b : ℕ) → a < b → ltb a b ≡ true
lt-bit a b below = grind (arith, nat_tests)

pub bit-lt : (a b : ℕ) → ltb a b ≡ true → a < b
bit-lt a b is = grind (arith, nat_tests)

-- a chain is a link, or a shorter chain and a link
data Chain (fs : List Fact) (n i j : ℕ) : Type 0 where
  Link : before_at fs i j ≡ true → Chain fs n i j
  More : (k : ℕ) → i < k → k < j → reaches fs n i k ≡ true → before_at fs k j ≡ true → Chain fs n i j

chain-of : (fs : List Fact) (n i j : ℕ) → reaches fs (suc n) i j ≡ true → Chain fs n i j
chain-of fs n i j chain =
    elim (is_or_not (before_at fs i j)) [
      | inl is ↦ Link is
      | inr isnt ↦
          let some : IsSome (λ k. ltb i k && (reaches fs n i k && before_at fs k j)) j =
          some-below (λ k. ltb i k && (reaches fs n i k && before_at fs k j)) j (rw isnt at chain) in
          let rest = and-right (ltb i some.at) (reaches fs n i some.at && before_at fs some.at j) some.is in
          More some.at
          (bit-lt i some.at (and-left (ltb i some.at) (reaches fs n i some.at && before_at fs some.at j) some.is))
          some.below
          (and-left (reaches fs n i some.at) (before_at fs some.at j) rest)
          (and-right (reaches fs n i some.at) (before_at fs some.at j) rest)
    ]

pub link : (fs : List Fact) (n i j : ℕ) → before_at fs i j ≡ true → reaches fs (suc n) i j ≡ true
link fs n i j is = or-in_left (before_at fs i j) _ is

more :
    (fs : List Fact) (n i k j : ℕ) → i < k → k < j → reaches fs n i k ≡ true → before_at fs k j ≡ true
    → reaches fs (suc n) i j ≡ true
more fs n i k j low high chain is =
    or-in_right (before_at fs i j) _
    (below-some (λ k. ltb i k && (reaches fs n i k && before_at fs k j)) j k high
    (let bit : ltb i k ≡ true = lt-bit i k low in rw (bit, chain, is) refl))

longer : (fs : List Fact) (n i j : ℕ) → reaches fs n i j ≡ true → reaches fs (suc n) i j ≡ true
longer fs zero i j chain = cc
longer fs (suc n) i j chain = here (chain-of fs n i j chain) (λ k. longer fs n i k)
  where
    here :
        Chain fs n i j → ((k : ℕ) → reaches fs n i k ≡ true → reaches fs (suc n) i k ≡ true)
        → reaches fs (suc (suc n)) i j ≡ true
    here (Link is) later = link fs (suc n) i j is
    here (More k low high part is) later = more fs (suc n) i k j low high (later k part) is

as-long : (fs : List Fact) (n d i j : ℕ) → reaches fs n i j ≡ true → reaches fs (n + d) i j ≡ true
as-long fs n zero i j chain = let same : n + 0 ≡ n = omega arith in rw same chain
as-long fs n (suc d) i j chain =
    let same : n + suc d ≡ suc (n + d) = omega arith in rw same (longer fs (n + d) i j (as-long fs n d i j chain))

-- no chain needs more links than its end's place
pub bounded : (fs : List Fact) (n i j : ℕ) → i < j → reaches fs n i j ≡ true → reaches fs j i j ≡ true
bounded fs zero i j below chain = cc
bounded fs (suc n) i zero below chain = absurd (omega arith)
bounded fs (suc n) i (suc j) below chain = here (chain-of fs n i (suc j) chain) (λ k. bounded fs n i k)
  where
    here :
        Chain fs n i (suc j) → ((k : ℕ) → i < k → reaches fs n i k ≡ true → reaches fs k i k ≡ true)
        → reaches fs (suc j) i (suc j) ≡ true
    here (Link is) later = link fs j i (suc j) is
    here (More k low high part is) later =
        more fs j i k (suc j) low high
        (let same : k + Rattle.std.specs.Prelude.◌-◌ j k ≡ j = omega arith in
        subst (λ (x : ℕ). reaches fs x i k ≡ true) same
        (as-long fs k (Rattle.std.specs.Prelude.◌-◌ j k) i k (later k low part))) is

-- one more link at the front
prepend :
    (fs : List Fact) (n h i j : ℕ) → h < i → i < j → before_at fs h i ≡ true → reaches fs n i j ≡ true
    → reaches fs (suc n) h j ≡ true
prepend fs zero h i j low below first chain = cc
prepend fs (suc n) h i j low below first chain = here (chain-of fs n i j chain) (λ k. prepend fs n h i k low)
  where
    here :
        Chain fs n i j
        → ((k : ℕ) → i < k → before_at fs h i ≡ true → reaches fs n i k ≡ true → reaches fs (suc n) h k ≡ true)
        → reaches fs (suc (suc n)) h j ≡ true
    here (Link is) later = more fs (suc n) h i j low below (link fs n h i first) is
    here (More k lo high part is) later = more fs (suc n) h k j (omega arith) high (later k lo first part) is

-- earlier steps of an ancestor's thread are ancestors
up_to-earlier :
    (fs : List Fact) (i h k : ℕ)
    → h < k → k ≤ i → (fact_at fs h).thread ≡ (fact_at fs k).thread → is_up_to fs i k ≡ true → is_up_to fs i h ≡ true
up_to-earlier fs i h k low high same up =
    let first : before_at fs h k ≡ true = or-in_left _ _ (eq-eqb (fact_at fs h).thread (fact_at fs k).thread same) in
    let bit : ltb h i ≡ true = lt-bit h i (omega arith) in
    or-in_right (eqb h i) (is_ancestor fs h i) (rw bit
    (elim (cases_eq k i) [
      | inl is ↦ bounded fs 1 h i (omega arith) (link fs 0 h i (rw is at first))
      | inr other ↦
          let isnt : eqb k i ≡ false = grind (arith, nat_tests) in
          let anc : is_ancestor fs k i ≡ true = rw isnt at up in
          bounded fs (suc i) h i (omega arith)
          (prepend fs i h k i low (omega arith) first (and-right (ltb k i) (reaches fs i k i) anc))
    ]))

-- counts

bit-le : (a b : Bool) → (a ≡ true → b ≡ true) → cond a 1 0 ≤ cond b 1 0
bit-le true true h = omega arith
bit-le true false h = (let is = h refl in cc)
bit-le false b h = omega arith

pub count-le :
    (p q : ℕ → Bool) (n : ℕ) → ((k : ℕ) → k < n → p k ≡ true → q k ≡ true) → count_below p n ≤ count_below q n
count-le p q zero h = omega arith
count-le p q (suc n) h =
    let first = bit-le (p n) (q n) (h n (omega arith)) in
    let rest = count-le p q n (λ k below is. h k (omega arith) is) in
    omega arith

pub count-step : (p : ℕ → Bool) (j n : ℕ) → j < n → p j ≡ true → suc (count_below p j) ≤ count_below p n
count-step p j zero below is = absurd (omega arith)
count-step p j (suc n) below is =
    elim (cases_eq j n) [
      | inl same ↦ let one : p n ≡ true = ap p (sym same) ∙ is in rw (same, one) (omega arith)
      | inr other ↦ let rest = count-step p j n (omega arith) is in omega arith
    ]

pub count-stay :
    (p : ℕ → Bool) (j n : ℕ) → j ≤ n → ((k : ℕ) → j ≤ k → k < n → p k ≡ false) → count_below p n ≡ count_below p j
count-stay p j zero low none = let same : j ≡ 0 = omega arith in rw same refl
count-stay p j (suc n) low none =
    elim (cases_eq j (suc n)) [
      | inl same ↦ rw same refl
      | inr other ↦
          let here : p n ≡ false = none n (omega arith) (omega arith) in
          let rest : count_below p n ≡ count_below p j =
          count-stay p j n (omega arith) (λ k lo hi. none k lo (omega arith)) in
          rw here (omega arith)
    ]

-- the clock determines which steps of a thread are the step or its ancestors: those whose numbers are below it
pub clock-tells :
    (fs : List Fact) (i j : ℕ) → j ≤ i
    → is_up_to fs i j ≡ true ↔ number_at fs j < clock_at fs i (fact_at fs j).thread
clock-tells fs i j low = (to, from)
  where
    to : is_up_to fs i j ≡ true → number_at fs j < clock_at fs i (fact_at fs j).thread
    to up =
        let all =
        count-le (λ k. eqb (fact_at fs k).thread (fact_at fs j).thread)
        (λ k. eqb (fact_at fs k).thread (fact_at fs j).thread && is_up_to fs i k) j
        (λ k below is. let up_k =
        up_to-earlier fs i k j below low (eqb-true (fact_at fs k).thread (fact_at fs j).thread is) up in
        rw (is, up_k) refl) in
        let own : eqb (fact_at fs j).thread (fact_at fs j).thread ≡ true =
        eq-eqb (fact_at fs j).thread (fact_at fs j).thread refl in
        let step =
        count-step (λ k. eqb (fact_at fs k).thread (fact_at fs j).thread && is_up_to fs i k) j (suc i) (omega arith)
        (rw (own, up) refl) in
        omega arith

    from : number_at fs j < clock_at fs i (fact_at fs j).thread → is_up_to fs i j ≡ true
    from fewer =
        elim (is_or_not (is_up_to fs i j)) [
          | inl up ↦ up
          | inr isnt ↦
              let none : (k : ℕ) → j ≤ k → k < suc i
              → (eqb (fact_at fs k).thread (fact_at fs j).thread && is_up_to fs i k) ≡ false =
              λ k lo hi.
              (elim (is_or_not (eqb (fact_at fs k).thread (fact_at fs j).thread && is_up_to fs i k)) [
                | inr no_step ↦ no_step
                | inl both ↦
                    let same =
                    eqb-true (fact_at fs k).thread (fact_at fs j).thread
                    (and-left (eqb (fact_at fs k).thread (fact_at fs j).thread) (is_up_to fs i k) both) in
                    let up_k = and-right (eqb (fact_at fs k).thread (fact_at fs j).thread) (is_up_to fs i k) both in
                    absurd (elim (cases_eq j k) [
                      | inl here ↦ (let up_j : is_up_to fs i j ≡ true = rw here up_k in cc)
                      | inr other ↦
                          (let up_j : is_up_to fs i j ≡ true =
                          up_to-earlier fs i j k (omega arith) (omega arith) (sym same) up_k in cc)
                    ])
              ]) in
              let stays =
              count-stay (λ k. eqb (fact_at fs k).thread (fact_at fs j).thread && is_up_to fs i k) j (suc i)
              (omega arith) none in
              let fewer_still =
              count-le (λ k. eqb (fact_at fs k).thread (fact_at fs j).thread && is_up_to fs i k)
              (λ k. eqb (fact_at fs k).thread (fact_at fs j).thread) j
              (λ k below both. and-left (eqb (fact_at fs k).thread (fact_at fs j).thread) (is_up_to fs i k) both) in
              absurd (omega arith)
        ]
