-- A closed set of steps along another order: what a step of the set writes comes only to those in the set.
use Rattle.std.proofs.Common.{◌≡◌, ◌<◌, ◌≤◌, ℕ, zero, suc, Bool, true, false, ◌&&◌, ◌||◌, not, eqb, leb, List, [], ◌∷◌, length, refl, ap, sym, ◌∙◌, subst, inl, inr, ◌⊎◌, arith}
use Rattle.std.proofs.lemmas.Bool.{cases_eq, cases_lt, eq-eqb, eqb-true}
use Rattle.std.proofs.lemmas.Bool.Decides.{nat_tests}
use Rattle.history_spec.specs.Facts.{Fact}
use Rattle.history_spec.specs.Before.{is_in, meets, overlap, fact_at, all_below, is_next_at, before_at}
use Rattle.history_spec.specs.Ancestors.{number_at}
use Rattle.history_spec.proofs.Lists.{and-left, and-right, or-left, or-right, or-in_left, or-in_right, is_or_not}
use Rattle.history_spec.proofs.Places.{IsClosed, below-all, given-next}
use Rattle.history_spec.proofs.Clocks.{below-some}
use Rattle.round_spec.specs.Reach.{read_at, gave_at, comes_to, IsClosedSet}
use Rattle.round_spec.specs.Due.{is_step_at}
use Rattle.round_spec.proofs.Placed.{all-below-of, not-or, not-or_gives, number-less}
use Rattle.round_spec.proofs.PlacedInRounds.{IsMade}

pub meets-of : (p : ℕ) (ks ls : List ℕ) → is_in p ks ≡ true → is_in p ls ≡ true → meets ks ls ≡ true
meets-of p [] ls one two = cc
meets-of p (k ∷ ks) ls one two =
    elim (cases_eq k p) [
      | inl same ↦ or-in_left (is_in k ls) (meets ks ls) (ap (λ (n : ℕ). is_in n ls) same ∙ two)
      | inr other ↦
          (let isnt : eqb k p ≡ false = grind (arith, nat_tests) in
          or-in_right (is_in k ls) (meets ks ls) (meets-of p ks ls (rw isnt at one) two))
    ]

-- a step that opens what another writes must come before it
pub opens-before :
    (fs : List Fact) (i j p : ℕ) → is_in p (fact_at fs i).opened ≡ true → is_in p (fact_at fs j).written ≡ true
    → before_at fs i j ≡ true
opens-before fs i j p opens writes =
    or-in_right (eqb (fact_at fs i).thread (fact_at fs j).thread) _
    (or-in_right (is_in (fact_at fs j).thread (fact_at fs i).given && is_next_at fs i j) _
    (or-in_right (overlap (fact_at fs i).objects (fact_at fs j).objects) _
    (or-in_right (meets (fact_at fs i).written (fact_at fs j).written) _
    (or-in_right (meets (fact_at fs i).written (fact_at fs j).opened) _
    (or-in_left (meets (fact_at fs i).opened (fact_at fs j).written) (fact_at fs j).last
    (meets-of p (fact_at fs i).opened (fact_at fs j).written opens writes))))))

-- the steps of a set, given by thread and number
abbrev pub among_steps : List Fact → (ℕ → Bool) → ℕ → ℕ → Bool
among_steps fs among t k = all_below (λ j. not (is_step_at fs t k j) || among j) (length fs)

pub step-at : (fs : List Fact) (t k j : ℕ) → (fact_at fs j).thread ≡ t → number_at fs j ≡ k → is_step_at fs t k j ≡ true
step-at fs t k j thread number =
    let one : eqb (fact_at fs j).thread t ≡ true = eq-eqb (fact_at fs j).thread t thread in
    let two : eqb (number_at fs j) k ≡ true = eq-eqb (number_at fs j) k number in
    rw (one, two) refl

pub of-step :
    (fs : List Fact) (t k j : ℕ) → is_step_at fs t k j ≡ true → ((fact_at fs j).thread ≡ t) × (number_at fs j ≡ k)
of-step fs t k j is = (
  eqb-true (fact_at fs j).thread t (and-left (eqb (fact_at fs j).thread t) (eqb (number_at fs j) k) is),
  eqb-true (number_at fs j) k (and-right (eqb (fact_at fs j).thread t) (eqb (number_at fs j) k) is),
)

pub among-of :
    (fs : List Fact) (among : ℕ → Bool) (t k : ℕ)
    → ((j : ℕ) → j < length fs → (fact_at fs j).thread ≡ t → number_at fs j ≡ k → among j ≡ true)
    → among_steps fs among t k ≡ true
among-of fs among t k all =
    all-below-of (λ j. not (is_step_at fs t k j) || among j) (length fs)
    (λ j below. not-or (is_step_at fs t k j) (among j) (λ is. let of = of-step fs t k j is in all j below of.0 of.1))

pub among-at :
    (fs : List Fact) (among : ℕ → Bool) (t k j : ℕ)
    → among_steps fs among t k ≡ true → j < length fs → (fact_at fs j).thread ≡ t → number_at fs j ≡ k → among j ≡ true
among-at fs among t k j is below thread number =
    not-or_gives (is_step_at fs t k j) (among j)
    (below-all (λ i. not (is_step_at fs t k i) || among i) (length fs) j is below) (step-at fs t k j thread number)

-- the pages that may differ after the steps that have come
abbrev pub tainted : List Fact → List ℕ → (ℕ → Bool) → List ℕ → ℕ → Bool
tainted fs pages among [] p = is_in p pages
tainted fs pages among (w ∷ come) p = (among w && is_in p (fact_at fs w).written) || tainted fs pages among come p

-- a step of the set that has come and writes a page
pub record IsSource (fs : List Fact) (among : ℕ → Bool) (come : List ℕ) (p : ℕ) : Type 0 where
  pub at : ℕ
  pub came : is_in at come ≡ true
  pub is : among at ≡ true
  pub writes : is_in p (fact_at fs at).written ≡ true

pub source-of :
    (fs : List Fact) (pages : List ℕ) (among : ℕ → Bool) (come : List ℕ) (p : ℕ)
    → tainted fs pages among come p ≡ true → (is_in p pages ≡ true) ⊎ IsSource fs among come p
source-of fs pages among [] p dirty = inl dirty
source-of fs pages among (w ∷ come) p dirty =
    elim (is_or_not (among w && is_in p (fact_at fs w).written)) [
      | inl both ↦
          inr (record {
            at = w;
            came = or-in_left (eqb w w) (is_in w come) (eq-eqb w w refl);
            is = and-left (among w) (is_in p (fact_at fs w).written) both;
            writes = and-right (among w) (is_in p (fact_at fs w).written) both;
          })
      | inr isnt ↦
          elim (source-of fs pages among come p (rw isnt at dirty)) [
            | inl start ↦ inl start
            | inr from ↦ inr
                (record {
                  at = from.at;
                  came = or-in_right (eqb w from.at) (is_in from.at come) from.came;
                  is = from.is;
                  writes = from.writes;
                })
          ]
    ]

module _ (fs : List Fact) (reads : List (List ℕ)) (pages : List ℕ) (among : ℕ → Bool)
    (closed : IsClosedSet fs reads pages among) where
  -- the next step of a thread of the set
  pub closed-next :
      (i j : ℕ) → j < length fs → among i ≡ true → (fact_at fs i).thread ≡ (fact_at fs j).thread
      → number_at fs j ≡ suc (number_at fs i) → among j ≡ true
  closed-next i j below is thread number =
      let less : i < j =
      (elim (cases_lt i j) [
        | inl is_less ↦ is_less
        | inr past ↦
            elim (cases_eq i j) [
              | inl same ↦ absurd (let own = ap (number_at fs) same in omega arith)
              | inr other ↦ absurd (let late = number-less fs j i (omega arith) (sym thread) in omega arith)
            ]
      ]) in
      let next : is_next_at fs i j ≡ true =
      all-below-of (λ k. leb k i || not (eqb (fact_at fs k).thread (fact_at fs j).thread)) j
      (λ k low.
      elim (cases_lt i k) [
        | inr early ↦ or-in_left (leb k i) _ (grind (arith, nat_tests))
        | inl late ↦
            elim (is_or_not (eqb (fact_at fs k).thread (fact_at fs j).thread)) [
              | inl own ↦
                  absurd (let same : (fact_at fs k).thread ≡ (fact_at fs j).thread =
                  eqb-true (fact_at fs k).thread (fact_at fs j).thread own in
                  let one = number-less fs i k late (thread ∙ sym same) in
                  let two = number-less fs k j low same in
                  omega arith)
              | inr isnt ↦ or-in_right (leb k i) _ (rw isnt refl)
            ]
      ]) in
      let own : eqb (fact_at fs i).thread (fact_at fs j).thread ≡ true =
      eq-eqb (fact_at fs i).thread (fact_at fs j).thread thread in
      closed.led i j less below is (or-in_left _ (comes_to fs reads i j) (rw (own, next) refl))

  module _
      (come : List ℕ) (count : ℕ → ℕ) (j to p : ℕ)
      (shut : IsClosed fs come) (isnt : is_in j come ≡ false) (below : j < length fs) (below_to : to < length fs)
      (made : IsMade fs (j ∷ come) count) (number : number_at fs to ≡ count (fact_at fs to).thread)
      (gives : is_in (fact_at fs to).thread (fact_at fs j).given ≡ true)
      (ahead : (i : ℕ) → i < j → is_in i come ≡ false → is_in (fact_at fs i).thread (fact_at fs j).given ≡ false)
      (opens : is_in p (fact_at fs j).opened ≡ true) (read : is_in p (read_at reads to) ≡ true) where
    to_left : is_in to (j ∷ come) ≡ false
    to_left = elim (is_or_not (is_in to (j ∷ come))) [
      | inl there ↦ absurd (let less = made.to to below_to there in omega arith)
      | inr none ↦ none
    ]

    not_j : eqb j to ≡ false
    not_j = or-left (eqb j to) (is_in to come) to_left

    later : j < to
    later =
        elim (cases_lt j to) [
          | inl less ↦ less
          | inr past ↦
              elim (cases_eq j to) [
                | inl same ↦ absurd (let own : eqb j to ≡ true = eq-eqb j to same in let other = not_j in cc)
                | inr other ↦ absurd
                    (let given : is_in (fact_at fs to).thread (fact_at fs j).given ≡ false =
                    ahead to (omega arith) (or-right (eqb j to) (is_in to come) to_left) in let gives_it = gives in cc)
              ]
        ]

    none-between :
        (n : ℕ) → n ≤ to → all_below (λ k. leb k j || not (eqb (fact_at fs k).thread (fact_at fs to).thread)) n ≡ true
    none-between zero low = refl
    none-between (suc n) low =
        let all : all_below (λ k. leb k j || not (eqb (fact_at fs k).thread (fact_at fs to).thread)) n ≡ true =
        none-between n (omega arith) in
        rw (here all (eqb (fact_at fs n).thread (fact_at fs to).thread) refl) all
      where
        here :
            all_below (λ k. leb k j || not (eqb (fact_at fs k).thread (fact_at fs to).thread)) n ≡ true
            → (b : Bool) → eqb (fact_at fs n).thread (fact_at fs to).thread ≡ b → (leb n j || not b) ≡ true
        here all false is = or-in_right (leb n j) true refl
        here all true is =
            elim (cases_lt j n) [
              | inr past ↦ or-in_left (leb n j) false (grind (arith, nat_tests))
              | inl less ↦
                  let same : (fact_at fs n).thread ≡ (fact_at fs to).thread =
                  eqb-true (fact_at fs n).thread (fact_at fs to).thread is in
                  let early = number-less fs n to (omega arith) same in
                  let n_there : is_in n (j ∷ come) ≡ true =
                  made.from n (omega arith)
                  (let count_same : count (fact_at fs n).thread ≡ count (fact_at fs to).thread = ap count same in
                  omega arith) in
                  let not_n : eqb j n ≡ false = grind (arith, nat_tests) in
                  let n_came : is_in n come ≡ true = rw not_n at n_there in
                  let next : is_next_at fs j n ≡ true =
                  subst (λ (t : ℕ). all_below (λ k. leb k j || not (eqb (fact_at fs k).thread t)) n ≡ true)
                  (sym same) all in
                  let gives_n : is_in (fact_at fs n).thread (fact_at fs j).given ≡ true =
                  subst (λ (t : ℕ). is_in t (fact_at fs j).given ≡ true) (sym same) gives in
                  let j_came : is_in j come ≡ true = shut j n less n_came (given-next fs j n gives_n next) in
                  absurd (cc)
            ]

    gave : gave_at fs j to ≡ true
    gave = let next = none-between to (omega arith) in rw (gives, next) refl

    pub spread-source : IsSource fs among (j ∷ come) p → among to ≡ true
    spread-source from =
        let early : from.at ≤ j =
        (elim (cases_lt j from.at) [
          | inr low ↦ low
          | inl high ↦
              let not_at : eqb j from.at ≡ false = grind (arith, nat_tests) in
              let at_came : is_in from.at come ≡ true = (let there = from.came in rw not_at at there) in
              let j_came : is_in j come ≡ true =
              shut j from.at high at_came (opens-before fs j from.at p opens from.writes) in
              absurd (cc)
        ]) in
        let bit : leb from.at j ≡ true = grind (arith, nat_tests) in
        let some = below-some (λ g. leb from.at g && gave_at fs g to) to j later (let is = gave in rw (bit, is) refl) in
        let both = meets-of p (fact_at fs from.at).written (read_at reads to) from.writes read in
        let less = later in
        closed.led from.at to (omega arith) below_to from.is
        (or-in_right _ (comes_to fs reads from.at to) (rw (some, both) refl))

    -- a thunk that is given a page that may differ, and reads it, is in the set
    pub spread : tainted fs pages among (j ∷ come) p ≡ true → among to ≡ true
    spread dirty =
        elim (source-of fs pages among (j ∷ come) p dirty) [
          | inl start ↦ closed.start to below_to (meets-of p pages (read_at reads to) start read)
          | inr from ↦ spread-source from
        ]
