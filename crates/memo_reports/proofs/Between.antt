-- The races of two steps, page by page.
use Rattle.std.proofs.Common.{◌≡◌, ◌<◌, ◌≤◌, ◌+◌, ℕ, zero, suc, Bool, true, false, ◌&&◌, ◌||◌, not, eqb, ltb, cond, List, [], ◌∷◌, ◌++◌, length, map, take, get_or, refl, ap, sym, ◌∙◌, subst, inl, inr, arith}
use Rattle.std.specs.List.{AllByRecursion, filter, range_with_len, count_by}
use Rattle.std.proofs.lemmas.Bool.{cases_eq, eq-eqb}
use Rattle.std.proofs.lemmas.Bool.Decides.{nat_tests}
use Rattle.std.proofs.lemmas.List.{length-map, length-take, map-append, take_more, take_all}
use Rattle.std.proofs.lemmas.List.Elements.{filter-append, All-from_recursion}
use Rattle.history_spec.specs.Facts.{Fact}
use Rattle.history_spec.specs.Before.{is_in, fact_at}
use Rattle.history_spec.proofs.Lists.{is_or_not}
use Rattle.round_spec.specs.Reach.{read_at}
use Rattle.round_spec.specs.declared.Race.{Race}
use Rattle.round_spec.specs.Sync.{is_ordered}
use Rattle.round_spec.specs.Races.{writes_at, touches_at, is_race, race_at, races_between}
use Rattle.memo_reports.specs.declared.races.touches.Touch.{Touch}
use Rattle.memo_reports.specs.declared.races.steps.Step.{Step}
use Rattle.memo_reports.specs.Touches.{touch_in, touches_in}
use Rattle.memo_reports.specs.Steps.{IsStep}
use Rattle.memo_reports.proofs.Tally.{bit, count-cons}
use Rattle.memo_reports.proofs.Bounds.{filter-short, touches-short}

-- what holds of each touched page
pub record IsTouched (written reads : List ℕ) (pages : ℕ) (t : Touch) : Type 0 where
  pub below : t.slot < pages
  pub there : (is_in t.slot written || is_in t.slot reads) ≡ true
  pub writes : t.writes ≡ is_in t.slot written

each-touched :
    (written reads : List ℕ) (pages low n : ℕ) → low + n ≤ pages
    → AllByRecursion (IsTouched written reads pages)
    (map (touch_in written) (filter (λ p. is_in p written || is_in p reads) (range_with_len low n)))
each-touched written reads pages low zero few = tt
each-touched written reads pages low (suc n) few =
    here (each-touched written reads pages (low + 1) n (omega arith)) (is_in low written || is_in low reads) refl
  where
    here :
        AllByRecursion (IsTouched written reads pages)
        (map (touch_in written) (filter (λ p. is_in p written || is_in p reads) (range_with_len (low + 1) n)))
        → (b : Bool) → (is_in low written || is_in low reads) ≡ b
        → AllByRecursion (IsTouched written reads pages)
        (map (touch_in written)
        (cond b (low ∷ filter (λ p. is_in p written || is_in p reads) (range_with_len (low + 1) n))
        (filter (λ p. is_in p written || is_in p reads) (range_with_len (low + 1) n))))
    here rest true is = (record { below = omega arith; there = is; writes = refl }, rest)
    here rest false isnt = rest

all-touched :
    (written reads : List ℕ) (pages n : ℕ) (t : Touch)
    → n < length (touches_in pages reads written) → t ≡ get_or (touches_in pages reads written) n t
    → IsTouched written reads pages t
all-touched written reads pages n t less at =
    subst (IsTouched written reads pages) (sym at)
    (All-from_recursion (IsTouched written reads pages) (touches_in pages reads written)
    (each-touched written reads pages 0 pages (omega arith)) n t less)

and-false : (b : Bool) → (b && false) ≡ false
and-false true = refl
and-false false = refl

-- how often a page is among the touched ones that pass a test

none-counted-below :
    (written : List ℕ) (q : ℕ → Bool) (test : Touch → Bool) (p low n : ℕ) → p < low
    → count_by (λ (t : Touch). eqb t.slot p && test t) (map (touch_in written) (filter q (range_with_len low n))) ≡ 0
none-counted-below written q test p low zero less = refl
none-counted-below written q test p low (suc n) less =
    here (none-counted-below written q test p (low + 1) n (omega arith)) (q low)
  where
    here :
        count_by (λ (t : Touch). eqb t.slot p && test t)
        (map (touch_in written) (filter q (range_with_len (low + 1) n))) ≡ 0
        → (b : Bool)
        → count_by (λ (t : Touch). eqb t.slot p && test t)
        (map (touch_in written) (cond b (low ∷ filter q (range_with_len (low + 1) n)) (filter q (range_with_len (low + 1) n))))
        ≡ 0
    here rest true =
        let no : eqb low p ≡ false = grind (arith, nat_tests) in
        let one = count-cons (λ (t : Touch). eqb t.slot p && test t) (touch_in written low)
        (map (touch_in written) (filter q (range_with_len (low + 1) n))) in
        let none : bit (eqb low p && test (touch_in written low)) ≡ 0 = rw no refl in
        omega arith
    here rest false = rest

-- one more page at the front
counted-first :
    (written rest : List ℕ) (test : Touch → Bool) (p low : ℕ) (b : Bool)
    → count_by (λ (t : Touch). eqb t.slot p && test t) (map (touch_in written) (cond b (low ∷ rest) rest))
    ≡ bit (b && (eqb low p && test (touch_in written low)))
    + count_by (λ (t : Touch). eqb t.slot p && test t) (map (touch_in written) rest)
counted-first written rest test p low true =
    count-cons (λ (t : Touch). eqb t.slot p && test t) (touch_in written low) (map (touch_in written) rest)
counted-first written rest test p low false =
    let none : count_by (λ (t : Touch). eqb t.slot p && test t) (map (touch_in written) rest)
    ≡ 0 + count_by (λ (t : Touch). eqb t.slot p && test t) (map (touch_in written) rest) = omega arith in
    none

counted-touched :
    (written : List ℕ) (q : ℕ → Bool) (test : Touch → Bool) (p low n : ℕ) → low ≤ p → p < low + n
    → count_by (λ (t : Touch). eqb t.slot p && test t) (map (touch_in written) (filter q (range_with_len low n)))
    ≡ bit (q p && test (touch_in written p))
counted-touched written q test p low zero lo hi = absurd (omega arith)
counted-touched written q test p low (suc n) lo hi =
    let first = counted-first written (filter q (range_with_len (low + 1) n)) test p low (q low) in
    elim (cases_eq low p) [
      | inl same ↦
          let yes : eqb low p ≡ true = eq-eqb low p same in
          let none = none-counted-below written q test p (low + 1) n (omega arith) in
          let here : bit (q low && (eqb low p && test (touch_in written low))) ≡ bit (q p && test (touch_in written p)) =
          rw yes (ap (λ (k : ℕ). bit (q k && test (touch_in written k))) same) in
          omega arith
      | inr other ↦
          let no : eqb low p ≡ false = grind (arith, nat_tests) in
          let rest = counted-touched written q test p (low + 1) n (omega arith) (omega arith) in
          let here : bit (q low && (eqb low p && test (touch_in written low))) ≡ 0 = rw no (ap bit (and-false (q low))) in
          omega arith
    ]

slots-back : (written ps : List ℕ) → map (λ (t : Touch). t.slot) (map (touch_in written) ps) ≡ ps
slots-back written [] = refl
slots-back written (p ∷ ps) = ap (λ (xs : List ℕ). p ∷ xs) (slots-back written ps)

filter-filter :
    (q r : ℕ → Bool) (ps : List ℕ) → ((p : ℕ) → q p ≡ true → r p ≡ true)
    → filter q (filter r ps) ≡ filter q ps
filter-filter q r [] within = refl
filter-filter q r (p ∷ ps) within = here (filter-filter q r ps within) (r p) refl
  where
    here :
        filter q (filter r ps) ≡ filter q ps → (b : Bool) → r p ≡ b
        → filter q (cond b (p ∷ filter r ps) (filter r ps)) ≡ cond (q p) (p ∷ filter q ps) (filter q ps)
    here rest true is = ap (λ (xs : List ℕ). cond (q p) (p ∷ xs) xs) rest
    here rest false is =
        elim (is_or_not (q p)) [
          | inl there ↦ (let yes = within p there in cc)
          | inr none ↦ rw none rest
        ]

-- the races of the steps at two places on the first of some pages
abbrev pub so_far : List Fact → List (List ℕ) → ℕ → ℕ → List Touch → ℕ → List Race
so_far fs reads i j touches n =
    map (race_at fs i j) (filter (is_race fs reads i j) (map (λ (t : Touch). t.slot) (take n touches)))

later-touches : (fs : List Fact) (reads : List (List ℕ)) (i j p : ℕ) → is_race fs reads i j p ≡ true → touches_at fs reads j p ≡ true
unfolding is_race
later-touches fs reads i j p race =
    touched (ltb i j && not (eqb (fact_at fs i).thread (fact_at fs j).thread)) (touches_at fs reads i p)
    (touches_at fs reads j p) ((writes_at fs i p || writes_at fs j p) && not (is_ordered fs i j)) race
  where
    touched : (u x y w : Bool) → (u && ((x && y) && w)) ≡ true → y ≡ true
    touched true true true w is = refl
    touched true true false w is = cc
    touched true false y w is = cc
    touched false x y w is = cc

module _ (fs : List Fact) (reads : List (List ℕ)) (pages j : ℕ) (b : Step) (is_b : IsStep fs reads pages j b) where
  -- each page of the step
  pub step-touched :
      (n : ℕ) (t : Touch) → n < length b.touches.items → t ≡ get_or b.touches.items n t
      → IsTouched (fact_at fs j).written (read_at reads j) pages t
  step-touched n t less at =
      all-touched (fact_at fs j).written (read_at reads j) pages n t
      (subst (λ (ts : List Touch). n < length ts) is_b.touches less)
      (at ∙ ap (λ (ts : List Touch). get_or ts n t) is_b.touches)

  pub step-few : length b.touches.items ≤ pages
  step-few =
      let short = touches-short pages (read_at reads j) (fact_at fs j).written in
      let touched = ap (λ (ts : List Touch). length ts) is_b.touches in
      omega arith

  pub step-counted :
      (test : Touch → Bool) (p : ℕ) → p < pages
      → count_by (λ (t : Touch). eqb t.slot p && test t) b.touches.items
      ≡ bit (touches_at fs reads j p && test (touch_in (fact_at fs j).written p))
  step-counted test p less =
      ap (count_by (λ (t : Touch). eqb t.slot p && test t)) is_b.touches
      ∙ counted-touched (fact_at fs j).written (λ k. is_in k (fact_at fs j).written || is_in k (read_at reads j)) test p 0 pages
      (omega arith) (omega arith)

  pub all-so_far :
      (i n : ℕ) → length b.touches.items ≤ n
      → so_far fs reads i j b.touches.items n ≡ races_between fs reads pages i j
  all-so_far i n past =
      ap (λ (ts : List Touch). map (race_at fs i j) (filter (is_race fs reads i j) (map (λ (t : Touch). t.slot) ts)))
      (take_all n b.touches.items past ∙ is_b.touches)
      ∙ ap (λ (ps : List ℕ). map (race_at fs i j) (filter (is_race fs reads i j) ps))
      (slots-back (fact_at fs j).written
      (filter (λ p. is_in p (fact_at fs j).written || is_in p (read_at reads j)) (range_with_len 0 pages)))
      ∙ ap (map (race_at fs i j))
      (filter-filter (is_race fs reads i j) (λ p. is_in p (fact_at fs j).written || is_in p (read_at reads j))
      (range_with_len 0 pages) (λ p race. later-touches fs reads i j p race))

-- one more page
pub more-so_far :
    (fs : List Fact) (reads : List (List ℕ)) (i j : ℕ) (touches : List Touch) (n : ℕ) (t : Touch)
    → n < length touches → t ≡ get_or touches n t
    → so_far fs reads i j touches (n + 1)
    ≡ so_far fs reads i j touches n ++ cond (is_race fs reads i j t.slot) (race_at fs i j t.slot ∷ []) []
more-so_far fs reads i j touches n t less at =
    ap (λ (ts : List Touch). map (race_at fs i j) (filter (is_race fs reads i j) (map (λ (u : Touch). u.slot) ts)))
    (take_more touches n t less ∙ ap (λ (u : Touch). take n touches ++ u ∷ []) (sym at))
    ∙ ap (λ (ps : List ℕ). map (race_at fs i j) (filter (is_race fs reads i j) ps))
    (map-append (λ (u : Touch). u.slot) (take n touches) (t ∷ []))
    ∙ ap (map (race_at fs i j))
    (filter-append (is_race fs reads i j) (map (λ (u : Touch). u.slot) (take n touches)) (t.slot ∷ []))
    ∙ map-append (race_at fs i j) (filter (is_race fs reads i j) (map (λ (u : Touch). u.slot) (take n touches)))
    (filter (is_race fs reads i j) (t.slot ∷ []))
    ∙ ap (λ (rs : List Race). so_far fs reads i j touches n ++ rs) (pushed (is_race fs reads i j t.slot))
  where
    pushed : (c : Bool) → map (race_at fs i j) (cond c (t.slot ∷ []) []) ≡ cond c (race_at fs i j t.slot ∷ []) []
    pushed true = refl
    pushed false = refl

-- there are no more races than pages
pub short-so_far :
    (fs : List Fact) (reads : List (List ℕ)) (i j : ℕ) (touches : List Touch) (n : ℕ)
    → length (so_far fs reads i j touches n) ≤ length touches
short-so_far fs reads i j touches n =
    let slots = map (λ (u : Touch). u.slot) (take n touches) in
    let one = length-map (filter (is_race fs reads i j) slots) (race_at fs i j) in
    let two = filter-short (is_race fs reads i j) slots in
    let three = length-map (take n touches) (λ (u : Touch). u.slot) in
    let four = length-take n touches in
    omega arith
