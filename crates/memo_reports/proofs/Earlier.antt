-- The accesses to a page before a step, and which of them race with it.
use Rattle.std.proofs.Common.{◌≡◌, ◌<◌, ◌≤◌, ◌+◌, ℕ, zero, suc, Bool, true, false, ◌&&◌, ◌||◌, not, eqb, ltb, leb, cond, List, [], ◌∷◌, length, take, get_or, slice_index, refl, ap, ap₂, sym, ◌∙◌, arith}
use Rattle.std.specs.List.{filter, flat_map, count_by}
use Rattle.std.proofs.lemmas.Bool.{eqb-true, eq-eqb, ne_eqb, and_parts}
use Rattle.std.proofs.lemmas.Bool.Decides.{nat_tests}
use Rattle.std.proofs.lemmas.List.{length-take, take_all}
use Rattle.std.proofs.lemmas.List.Sums.{sum_by_more, count_by-le-length}
use Rattle.history_spec.specs.Facts.{Fact}
use Rattle.history_spec.specs.Before.{fact_at}
use Rattle.history_spec.specs.Ancestors.{count_below, number_at}
use Rattle.round_spec.specs.Reach.{read_at}
use Rattle.round_spec.specs.declared.Race.{Race}
use Rattle.round_spec.specs.Sync.{is_ordered, seen_at}
use Rattle.round_spec.specs.Races.{writes_at, touches_at, is_race, race_at}
use Rattle.round_spec.proofs.Sync.{ordered-tells}
use Rattle.memo_reports.specs.declared.races.touches.Touch.{Touch}
use Rattle.memo_reports.specs.declared.races.steps.Step.{Step}
use Rattle.memo_reports.specs.declared.races.past.Access.{Access}
use Rattle.memo_reports.specs.declared.races.past.ThreadPast.{ThreadPast}
use Rattle.memo_reports.specs.declared.races.past.PagePast.{PagePast}
use Rattle.memo_reports.specs.Touches.{touch_in}
use Rattle.memo_reports.specs.Steps.{IsStep}
use Rattle.memo_reports.specs.Past.{IsPagePast, accesses_of, races_with, is_misplaced}
use Rattle.memo_reports.specs.Rows.{race_with, races_in}
use Rattle.memo_reports.proofs.Tally.{bit, tally, tally-same, tally-none, tally-one, tally-few, count-all, count-none, count-filter, filter-both, one-listed}
use Rattle.memo_reports.proofs.Between.{IsTouched, step-counted, step-few}

-- the access of the step at a place to a page
abbrev pub access_at : List Fact → ℕ → ℕ → Access
access_at fs p i =
    record { place = i; thread = (fact_at fs i).thread; number = number_at fs i; writes = writes_at fs i p }

-- the access of a step for a page that it touches
abbrev pub access_for : Step → ℕ → Touch → Access
access_for s j t = record { place = j; thread = s.thread; number = s.number; writes = t.writes }

-- how many accesses to a page pass a test before the step at place j, and of that step's own first ones
abbrev pub before_of : List Fact → List (List ℕ) → ℕ → ℕ → (Access → Bool) → ℕ
before_of fs reads p j q = tally (λ i. touches_at fs reads i p && q (access_at fs p i)) j

abbrev pub own_of : Step → ℕ → ℕ → ℕ → (Access → Bool) → ℕ
own_of s j p n q = count_by (λ (t : Touch). eqb t.slot p && q (access_for s j t)) (take n s.touches.items)

-- the accesses to a page are those of the steps before place j, and of the first pages of step j
pub record HasPast (fs : List Fact) (reads : List (List ℕ)) (p j n : ℕ) (s : Step) (page : PagePast) : Type 0 where
  pub past : IsPagePast page
  pub counts : (q : Access → Bool) → count_by q (accesses_of page) ≡ before_of fs reads p j q + own_of s j p n q

count-longer : (p : ℕ → Bool) (n d : ℕ) → count_below p n ≤ count_below p (n + d)
count-longer p n zero = let same : n + 0 ≡ n = omega arith in rw same (omega arith)
count-longer p n (suc d) =
    let rest = count-longer p n d in
    let same : n + suc d ≡ suc (n + d) = omega arith in
    rw same (omega arith)

-- the numbers of a thread's steps ascend
numbers-ascend :
    (fs : List Fact) (i j : ℕ) → i ≤ j → (fact_at fs i).thread ≡ (fact_at fs j).thread → number_at fs i ≤ number_at fs j
numbers-ascend fs i j early same =
    let longer = count-longer (λ k. eqb (fact_at fs k).thread (fact_at fs i).thread) i (Rattle.std.specs.Prelude.◌-◌ j i) in
    let whole : i + Rattle.std.specs.Prelude.◌-◌ j i ≡ j = omega arith in
    let one = ap (count_below (λ k. eqb (fact_at fs k).thread (fact_at fs i).thread)) whole in
    let two = ap (λ (t : ℕ). count_below (λ k. eqb (fact_at fs k).thread t) j) same in
    omega arith

and-false : (b : Bool) → (b && false) ≡ false
and-false true = refl
and-false false = refl

eqb-self : (n : ℕ) → eqb n n ≡ true
eqb-self n = grind (arith, nat_tests)

leb-self : (n : ℕ) → leb n n ≡ true
leb-self n = grind (arith, nat_tests)

and-true : (b : Bool) → (b && true) ≡ b
and-true true = refl
and-true false = refl

-- whether an access is that of the step at a place, as far as a race depends on it
abbrev is_same : List Fact → ℕ → ℕ → Access → Bool
is_same fs p i a = eqb a.place i && cond (writes_at fs i p) a.writes (not a.writes)

same-itself : (fs : List Fact) (p i : ℕ) → is_same fs p i (access_at fs p i) ≡ true
same-itself fs p i = let self = eqb-self i in rw self (here (writes_at fs i p))
  where
    here : (b : Bool) → cond b b (not b) ≡ true
    here true = refl
    here false = refl

same-writes : (b c : Bool) → cond b c (not c) ≡ true → c ≡ b
same-writes true c is = is
same-writes false true is = sym is
same-writes false false is = refl

same-race :
    (fs : List Fact) (t : Touch) (i j : ℕ) (a : Access) → t.writes ≡ writes_at fs j t.slot → is_same fs t.slot i a ≡ true
    → race_with j t a ≡ race_at fs i j t.slot
same-race fs t i j a later is =
    let parts = and_parts (eqb a.place i) (cond (writes_at fs i t.slot) a.writes (not a.writes)) is in
    let place = eqb-true a.place i parts.0 in
    let earlier = same-writes (writes_at fs i t.slot) a.writes parts.1 in
    ap₂ (λ (k : ℕ) (b : Bool). race_of k j t.slot b t.writes) place earlier
    ∙ ap (race_of i j t.slot (writes_at fs i t.slot)) later
  where
    race_of : ℕ → ℕ → ℕ → Bool → Bool → Race
    race_of i j p w v = record { earlier = i; later = j; slot = p; earlier_writes = w; later_writes = v }

module _ (fs : List Fact) (reads : List (List ℕ)) (pages j : ℕ) (s : Step) (is : IsStep fs reads pages j s)
    (known : (i : ℕ) → i < j → (fact_at fs i).thread < 32) where
  -- a step's own accesses don't race with it
  own-none : (p n : ℕ) (w : Bool) → own_of s j p n (races_with s w) ≡ 0
  own-none p n w =
      count-none (λ (t : Touch). eqb t.slot p && races_with s w (access_for s j t))
      (λ (t : Touch). (let self = eqb-self s.thread in rw self (and-false (eqb t.slot p))))
      (take n s.touches.items)

  own-less : (p n : ℕ) (w : Bool) (r r' : Access → Bool) → own_of s j p n (λ (a : Access). (races_with s w a && r a) && r' a) ≡ 0
  own-less p n w r r' =
      count-none (λ (t : Touch). eqb t.slot p && ((races_with s w (access_for s j t) && r (access_for s j t)) && r' (access_for s j t)))
      (λ (t : Touch). (let self = eqb-self s.thread in rw self (and-false (eqb t.slot p))))
      (take n s.touches.items)

  -- an earlier access races with the step exactly if the two steps race
  pub race-reported :
      (t : Touch) → IsTouched (fact_at fs j).written (read_at reads j) pages t
      → (i : ℕ) → i < j
      → (touches_at fs reads i t.slot && races_with s t.writes (access_at fs t.slot i)) ≡ is_race fs reads i j t.slot
  unfolding is_race
  race-reported t touched i early =
      let low : ltb i j ≡ true = grind (arith, nat_tests) in
      let thread : eqb (fact_at fs i).thread s.thread ≡ eqb (fact_at fs i).thread (fact_at fs j).thread =
      ap (eqb (fact_at fs i).thread) is.thread in
      let seen : slice_index s.seen (fact_at fs i).thread ≡ seen_at fs j (fact_at fs i).thread =
      is.seen (fact_at fs i).thread (known i early) in
      let order : is_ordered fs i j ≡ ltb (number_at fs i) (slice_index s.seen (fact_at fs i).thread) =
      ordered-tells fs i j ∙ ap (ltb (number_at fs i)) (sym seen) in
      let there : touches_at fs reads j t.slot ≡ true = touched.there in
      let writes : writes_at fs j t.slot ≡ t.writes = sym touched.writes in
      rw (low, thread, order, there, writes)
      (turned (touches_at fs reads i t.slot) (not (eqb (fact_at fs i).thread (fact_at fs j).thread))
      t.writes (writes_at fs i t.slot)
      (not (ltb (number_at fs i) (slice_index s.seen (fact_at fs i).thread))))
    where
      turned : (x a w v o : Bool) → (x && (a && ((w || v) && o))) ≡ (a && ((x && true) && ((v || w) && o)))
      turned true true true true o = refl
      turned true true true false o = refl
      turned true true false true o = refl
      turned true true false false o = refl
      turned true false w v o = refl
      turned false true w v o = refl
      turned false false w v o = refl

  -- this number of accesses races with the step for a page
  pub racing-counted :
      (t : Touch) (n : ℕ) (page : PagePast)
      → IsTouched (fact_at fs j).written (read_at reads j) pages t
      → HasPast fs reads t.slot j n s page
      → count_by (races_with s t.writes) (accesses_of page) ≡ tally (λ i. is_race fs reads i j t.slot) j
  racing-counted t n page touched has =
      let all = has.counts (races_with s t.writes) in
      let none = own-none t.slot n t.writes in
      let same =
      tally-same (λ i. touches_at fs reads i t.slot && races_with s t.writes (access_at fs t.slot i))
      (λ i. is_race fs reads i j t.slot) j (race-reported t touched) in
      omega arith

  -- of each earlier step, at most one access races with the step for a page, if the two steps race
  pub row-reported :
      (t : Touch) (n : ℕ) (page : PagePast)
      → IsTouched (fact_at fs j).written (read_at reads j) pages t
      → HasPast fs reads t.slot j n s page
      → (i : ℕ) → i < j
      → races_in i j t (filter (races_with s t.writes) (accesses_of page))
      ≡ cond (is_race fs reads i j t.slot) (race_at fs i j t.slot ∷ []) []
  row-reported t n page touched has i early =
      one-listed (race_with j t) (race_at fs i j t.slot) (is_same fs t.slot i)
      (filter (λ (a : Access). eqb a.place i) (filter (races_with s t.writes) (accesses_of page)))
      (is_race fs reads i j t.slot)
      (λ a there. same-race fs t i j a touched.writes there)
      (passing (λ (a : Access). true) refl)
      (passing (is_same fs t.slot i) (same-itself fs t.slot i))
    where
      passing :
          (r : Access → Bool) → r (access_at fs t.slot i) ≡ true
          → count_by r (filter (λ (a : Access). eqb a.place i) (filter (races_with s t.writes) (accesses_of page)))
          ≡ bit (is_race fs reads i j t.slot)
      passing r here =
          ap (count_by r) (filter-both (λ (a : Access). eqb a.place i) (races_with s t.writes) (accesses_of page))
          ∙ count-filter r (λ (a : Access). races_with s t.writes a && eqb a.place i) (accesses_of page)
          ∙ has.counts (λ (a : Access). (races_with s t.writes a && eqb a.place i) && r a)
          ∙ ap₂ (λ (m k : ℕ). m + k)
          (tally-same
          (λ k. touches_at fs reads k t.slot
          && ((races_with s t.writes (access_at fs t.slot k) && eqb k i) && r (access_at fs t.slot k)))
          (λ k. (is_race fs reads k j t.slot && r (access_at fs t.slot k)) && eqb k i) j
          (λ k less.
          turned (touches_at fs reads k t.slot) (races_with s t.writes (access_at fs t.slot k)) (eqb k i)
          (r (access_at fs t.slot k))
          ∙ ap (λ (b : Bool). (b && r (access_at fs t.slot k)) && eqb k i) (race-reported t touched k less))
          ∙ tally-one (λ k. is_race fs reads k j t.slot && r (access_at fs t.slot k)) i j early
          ∙ ap (λ (b : Bool). bit (is_race fs reads i j t.slot && b)) here
          ∙ ap bit (and-true (is_race fs reads i j t.slot)))
          (own-less t.slot n t.writes (λ (a : Access). eqb a.place i) r)
          ∙ plus-none (bit (is_race fs reads i j t.slot))
        where
          turned : (x q e r : Bool) → (x && ((q && e) && r)) ≡ (((x && q) && r) && e)
          turned true true true r = sym (and-true r)
          turned true true false true = refl
          turned true true false false = refl
          turned true false e r = refl
          turned false q e r = refl

          plus-none : (n : ℕ) → n + 0 ≡ n
          plus-none n = omega arith

  -- the accesses of earlier steps don't come after the step's own
  pub none-misplaced :
      (t : Touch) (p n : ℕ) (page : PagePast) → HasPast fs reads p j n s page
      → count_by (is_misplaced (access_for s j t)) (accesses_of page) ≡ 0
  none-misplaced t p n page has =
      let all = has.counts (is_misplaced (access_for s j t)) in
      let before =
      tally-none (λ i. touches_at fs reads i p && is_misplaced (access_for s j t) (access_at fs p i)) j
      (λ i less. placed i less (eqb (fact_at fs i).thread s.thread) refl) in
      let own =
      count-none (λ (u : Touch). eqb u.slot p && is_misplaced (access_for s j t) (access_for s j u))
      (λ (u : Touch).
      (let one = leb-self j in
      let two = leb-self s.number in
      rw (one, two) (ap (λ (b : Bool). eqb u.slot p && b) (and-false (eqb s.thread s.thread)) ∙ and-false (eqb u.slot p))))
      (take n s.touches.items) in
      omega arith
    where
      placed :
          (i : ℕ) → i < j → (b : Bool) → eqb (fact_at fs i).thread s.thread ≡ b
          → (touches_at fs reads i p && is_misplaced (access_for s j t) (access_at fs p i)) ≡ false
      placed i less false other = rw other (and-false (touches_at fs reads i p))
      placed i less true same =
          let thread = eqb-true (fact_at fs i).thread s.thread same ∙ is.thread in
          let low = numbers-ascend fs i j (omega arith) thread in
          let number = is.number in
          let one : leb i j ≡ true = grind (arith, nat_tests) in
          let two : leb (number_at fs i) s.number ≡ true = grind (arith, nat_tests) in
          rw (same, one, two) (and-false (touches_at fs reads i p))

  -- the step's access to one more page

  own-more :
      (t : Touch) (p n : ℕ) (q : Access → Bool) → n < length s.touches.items → t ≡ get_or s.touches.items n t
      → own_of s j p (n + 1) q ≡ own_of s j p n q + bit (eqb t.slot p && q (access_for s j t))
  own-more t p n q less at =
      sum_by_more (λ (u : Touch). bit (eqb u.slot p && q (access_for s j u))) s.touches.items n t less
      ∙ ap (λ (u : Touch). own_of s j p n q + bit (eqb u.slot p && q (access_for s j u))) (sym at)

  pub other-page :
      (t : Touch) (p n : ℕ) (page : PagePast) → n < length s.touches.items → t ≡ get_or s.touches.items n t
      → (t.slot ≡ p → ⊥) → HasPast fs reads p j n s page → HasPast fs reads p j (n + 1) s page
  other-page t p n page less at other has =
      record {
        past = has.past;
        counts = λ q.
            (let no : eqb t.slot p ≡ false = ne_eqb t.slot p other in
            let none : bit (eqb t.slot p && q (access_for s j t)) ≡ 0 = rw no refl in
            let more = own-more t p n q less at in
            let all = has.counts q in
            omega arith);
      }

  pub page-more :
      (t : Touch) (p n : ℕ) (page page' : PagePast) → n < length s.touches.items → t ≡ get_or s.touches.items n t
      → t.slot ≡ p → HasPast fs reads p j n s page → IsPagePast page'
      → ((q : Access → Bool) → count_by q (accesses_of page') ≡ count_by q (accesses_of page) + bit (q (access_for s j t)))
      → HasPast fs reads p j (n + 1) s page'
  page-more t p n page page' less at same has past counts =
      record {
        past = past;
        counts = λ q.
            (let yes : eqb t.slot p ≡ true = eq-eqb t.slot p same in
            let one : bit (eqb t.slot p && q (access_for s j t)) ≡ bit (q (access_for s j t)) = rw yes refl in
            let more = own-more t p n q less at in
            let all = has.counts q in
            let now = counts q in
            omega arith);
      }

  -- one more step
  pub past-next :
      (p n : ℕ) (page : PagePast) (s' : Step) → p < pages → length s.touches.items ≤ n
      → HasPast fs reads p j n s page → HasPast fs reads p (j + 1) 0 s' page
  past-next p n page s' below end has =
      record {
        past = has.past;
        counts = λ q.
            (let next : j + 1 ≡ suc j = omega arith in
            let whole = ap (count_by (λ (t : Touch). eqb t.slot p && q (access_for s j t))) (take_all n s.touches.items end) in
            let own = step-counted fs reads pages j s is (λ (t : Touch). q (access_for s j t)) p below in
            let access : access_for s j (touch_in (fact_at fs j).written p) ≡ access_at fs p j =
            ap₂ (λ (t m : ℕ). access_by t m (writes_at fs j p)) is.thread is.number in
            let here = ap (λ (a : Access). bit (touches_at fs reads j p && q a)) access in
            let before : before_of fs reads p (j + 1) q
            ≡ bit (touches_at fs reads j p && q (access_at fs p j)) + before_of fs reads p j q = rw next refl in
            let none : own_of s' (j + 1) p 0 q ≡ 0 = refl in
            let all = has.counts q in
            omega arith);
      }
    where
      access_by : ℕ → ℕ → Bool → Access
      access_by t m w = record { place = j; thread = t; number = m; writes = w }

  -- there are few accesses
  pub past-few :
      (p n : ℕ) (page : PagePast) → HasPast fs reads p j n s page → length (accesses_of page) ≤ j + pages
  past-few p n page has =
      let all = has.counts (λ (a : Access). true) in
      let long = count-all (accesses_of page) in
      let before = tally-few (λ i. touches_at fs reads i p && true) j in
      let own = count_by-le-length (λ (t : Touch). eqb t.slot p && true) (take n s.touches.items) in
      let touches = length-take n s.touches.items in
      let few = step-few fs reads pages j s is in
      omega arith

-- no access before the first step
pub past-none :
    (fs : List Fact) (reads : List (List ℕ)) (p : ℕ) (s : Step) (page : PagePast) → page.threads.items ≡ []
    → HasPast fs reads p 0 0 s page
past-none fs reads p s page none =
    record {
      past = λ k d less. absurd (let long = ap (λ (xs : List ThreadPast). length xs) none in omega arith);
      counts = λ q.
          (let nothing = ap (λ (xs : List ThreadPast). count_by q (flat_map (λ (r : ThreadPast). r.all.items) xs)) none in
          let zero : 0 + 0 ≡ 0 = omega arith in
          nothing ∙ sym zero);
    }
