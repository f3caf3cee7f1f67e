-- One more step of those that changed pages reach, and whether the next step is reached.
use Rattle.std.proofs.Common.{◌≡◌, ◌≢◌, ◌<◌, ◌≤◌, ℕ, zero, suc, Bool, true, false, ◌&&◌, ◌||◌, not, eqb, leb, ltb, cond, List, [], ◌∷◌, slice_index, slice_index_or, refl, ap, ap₂, sym, ◌∙◌, inl, inr, arith}
use Rattle.std.specs.List.{list_any, list_all}
use Rattle.std.proofs.lemmas.Bool.{cases_eq, eq-eqb, eqb-true, ne_eqb, le-leb, lt-leb, lt-ltb, ltb-true}
use Rattle.guest_call.specs.declared.thread_number.TheConstants.{THREADS}
use Rattle.history_spec.specs.Facts.{Fact}
use Rattle.history_spec.specs.Before.{is_in, meets, fact_at, all_below}
use Rattle.history_spec.specs.Ancestors.{any_below}
use Rattle.history_spec.proofs.Lists.{and-left, and-right, or-in_left, or-in_right, is_or_not}
use Rattle.history_spec.proofs.Clocks.{some-below, below-some}
use Rattle.round_spec.specs.Reach.{read_at, leads_to, comes_to, gave_at, giver_end, is_reached, last_below}
use Rattle.round_spec.proofs.Least.{any-like, both-ways, reached-pass}
use Rattle.round_spec.proofs.Givers.{last-tells}
use Rattle.round_spec.proofs.Spread.{meets-of}
use Rattle.depend_graph.specs.Past.{is_of, writes, gives}
use Rattle.depend_graph.specs.declared.reaching.Reached.{Reached}
use Rattle.depend_graph.specs.Reaching.{shows, led_of, end_of, is_last, IsStepMore, IsReachedPast}

-- Some threads have an end, and the others are as they were.
pub record IsGiven (before after : List ℕ) (threads : List ℕ) (end : ℕ) : Type 0 where
  pub given : (t : ℕ) → t < THREADS → is_in t threads ≡ true → slice_index after t ≡ end
  pub others : (t : ℕ) → is_in t threads ≡ false → slice_index after t ≡ slice_index before t

-- an element of a list of zeros is 0
pub all-zero : (ns : List ℕ) (i : ℕ) → list_all (λ n. eqb n 0) ns ≡ true → slice_index ns i ≡ 0
all-zero [] i all = refl
all-zero (n ∷ ns) zero all = eqb-true n 0 (and-left (eqb n 0) (list_all (λ m. eqb m 0) ns) all)
all-zero (n ∷ ns) (suc i) all = all-zero ns i (and-right (eqb n 0) (list_all (λ m. eqb m 0) ns) all)

pub all-false : (bs : List Bool) (i : ℕ) → list_all (λ b. not b) bs ≡ true → slice_index_or bs i false ≡ false
all-false [] i all = refl
all-false (true ∷ bs) i all = cc
all-false (false ∷ bs) zero all = refl
all-false (false ∷ bs) (suc i) all = all-false bs i all

-- a number in a list that passes a test
record IsListed (test : ℕ → Bool) (ks : List ℕ) : Type 0 where
  pub value : ℕ
  pub listed : is_in value ks ≡ true
  pub is : test value ≡ true

some-listed : (test : ℕ → Bool) (ks : List ℕ) → list_any test ks ≡ true → IsListed test ks
some-listed test [] some = cc
some-listed test (k ∷ ks) some =
    elim (is_or_not (test k)) [
      | inl is ↦ record {
        value = k;
        listed = or-in_left (eqb k k) (is_in k ks) (eq-eqb k k refl);
        is = is;
      }
      | inr isnt ↦
          let later = some-listed test ks (rw isnt at some) in
          record {
            value = later.value;
            listed = or-in_right (eqb k later.value) (is_in later.value ks) later.listed;
            is = later.is;
          }
    ]

listed-some : (test : ℕ → Bool) (ks : List ℕ) (k : ℕ) → is_in k ks ≡ true → test k ≡ true → list_any test ks ≡ true
listed-some test [] k listed is = cc
listed-some test (j ∷ ks) k listed is =
    elim (cases_eq j k) [
      | inl same ↦ or-in_left (test j) (list_any test ks) (ap test same ∙ is)
      | inr other ↦
          let no : eqb j k ≡ false = ne_eqb j k other in
          or-in_right (test j) (list_any test ks) (listed-some test ks k (rw no at listed) is)
    ]

-- the last step of a thread among one more
or-true : (b : Bool) → (b || true) ≡ true
or-true true = refl
or-true false = refl

and-false : (b : Bool) → (b && false) ≡ false
and-false true = refl
and-false false = refl

none-below : (n : ℕ) → any_below (λ i. false) n ≡ false
none-below zero = refl
none-below (suc n) = none-below n

last-none : (n : ℕ) → last_below (λ i. false) n ≡ 0
last-none zero = refl
last-none (suc n) = last-none n

last-like : (p q : ℕ → Bool) (n : ℕ) → ((i : ℕ) → i < n → p i ≡ q i) → last_below p n ≡ last_below q n
last-like p q zero same = refl
last-like p q (suc n) same =
    ap (λ (b : Bool). cond b (suc n) (last_below p n)) (same n (omega arith))
    ∙ ap (λ (k : ℕ). cond (q n) (suc n) k) (last-like p q n (λ i less. same i (omega arith)))

all-early : (fs : List Fact) (t i n : ℕ) → n ≤ i → all_below (λ k. leb k i || not (eqb (fact_at fs k).thread t)) n ≡ true
all-early fs t i zero low = refl
all-early fs t i (suc n) low =
    let early : leb n i ≡ true = le-leb n i (omega arith) in
    rw early (all-early fs t i n (omega arith))

module _ (fs : List Fact) (n t : ℕ) where
  -- no step comes after the step itself
  own-last : all_below (λ k. leb k n || not (eqb (fact_at fs k).thread t)) (suc n) ≡ true
  own-last =
      let early : leb n n ≡ true = le-leb n n (omega arith) in
      rw early (all-early fs t n n (omega arith))

  -- an earlier step isn't the last one any more if it is of the same thread, and else is as before
  past-own : (i : ℕ) → i < n → (fact_at fs n).thread ≡ t
      → all_below (λ k. leb k i || not (eqb (fact_at fs k).thread t)) (suc n) ≡ false
  past-own i less own =
      let late : leb n i ≡ false = lt-leb n i less in
      let is : eqb (fact_at fs n).thread t ≡ true = eq-eqb (fact_at fs n).thread t own in
      rw (late, is) refl

  past-other : (i : ℕ) → i < n → (fact_at fs n).thread ≢ t
      → all_below (λ k. leb k i || not (eqb (fact_at fs k).thread t)) (suc n)
      ≡ all_below (λ k. leb k i || not (eqb (fact_at fs k).thread t)) n
  past-other i less other =
      let isnt : eqb (fact_at fs n).thread t ≡ false = ne_eqb (fact_at fs n).thread t other in
      rw (isnt, or-true (leb n i)) refl

-- whether the last step of a thread is reached
led-more :
    (fs : List Fact) (reached : ℕ → Bool) (n t : ℕ)
    → any_below (λ i. reached i && is_last fs (suc n) t i) (suc n)
    ≡ cond (eqb (fact_at fs n).thread t) (reached n) (any_below (λ i. reached i && is_last fs n t i) n)
led-more fs reached n t =
    elim (cases_eq (fact_at fs n).thread t) [
      | inl own ↦
          let is : eqb (fact_at fs n).thread t ≡ true = eq-eqb (fact_at fs n).thread t own in
          let rest : any_below (λ i. reached i && is_last fs (suc n) t i) n ≡ false =
          any-like (λ i. reached i && is_last fs (suc n) t i) (λ i. false) n
          (λ i less. rw (past-own fs n t i less own) (gone (reached i) (is_of fs t i)))
          ∙ none-below n in
          rw (rest, own-last fs n t, is) (kept (reached n))
      | inr other ↦
          let isnt : eqb (fact_at fs n).thread t ≡ false = ne_eqb (fact_at fs n).thread t other in
          let rest : any_below (λ i. reached i && is_last fs (suc n) t i) n
          ≡ any_below (λ i. reached i && is_last fs n t i) n =
          any-like (λ i. reached i && is_last fs (suc n) t i) (λ i. reached i && is_last fs n t i) n
          (λ i less. ap (λ (b : Bool). reached i && (is_of fs t i && b)) (past-other fs n t i less other)) in
          rw (rest, isnt) (lost (reached n) (any_below (λ i. reached i && is_last fs n t i) n))
    ]
  where
    gone : (a b : Bool) → (a && (b && false)) ≡ false
    gone true b = and-false b
    gone false b = refl

    kept : (a : Bool) → ((a && true) || false) ≡ a
    kept true = refl
    kept false = refl

    lost : (a b : Bool) → ((a && false) || b) ≡ b
    lost true b = refl
    lost false b = refl

-- which step gave the next thunk of a thread a view
ends-more :
    (fs : List Fact) (n t : ℕ)
    → last_below (gives fs (suc n) t) (suc n)
    ≡ cond (is_in t (fact_at fs n).given) (suc n)
    (cond (eqb (fact_at fs n).thread t) 0 (last_below (gives fs n t) n))
ends-more fs n t =
    rw (own-last fs n t, kept (is_in t (fact_at fs n).given))
    (ap (cond (is_in t (fact_at fs n).given) (suc n))
    (elim (cases_eq (fact_at fs n).thread t) [
      | inl own ↦
          let is : eqb (fact_at fs n).thread t ≡ true = eq-eqb (fact_at fs n).thread t own in
          rw is
          (last-like (gives fs (suc n) t) (λ i. false) n
          (λ i less. rw (past-own fs n t i less own) (and-false (is_in t (fact_at fs i).given)))
          ∙ last-none n)
      | inr other ↦
          let isnt : eqb (fact_at fs n).thread t ≡ false = ne_eqb (fact_at fs n).thread t other in
          rw isnt
          (last-like (gives fs (suc n) t) (gives fs n t) n
          (λ i less. ap (λ (b : Bool). is_in t (fact_at fs i).given && b) (past-other fs n t i less other)))
    ]))
  where
    kept : (a : Bool) → (a && true) ≡ a
    kept true = refl
    kept false = refl

-- one more step is past
pub past-more :
    (fs : List Fact) (reads : List (List ℕ)) (pages : List ℕ) (n : ℕ) (before after : Reached)
    → IsReachedPast fs reads pages n before
    → IsStepMore before after (fact_at fs n) n (is_reached fs reads pages n)
    → IsReachedPast fs reads pages (suc n) after
past-more fs reads pages n before after past more =
    record {
      led = λ t in_range.
          more.led t in_range
          ∙ ap (cond (eqb (fact_at fs n).thread t) (is_reached fs reads pages n)) (past.led t in_range)
          ∙ sym (led-more fs (is_reached fs reads pages) n t);
      ends = λ t in_range.
          more.ends t in_range
          ∙ ap (λ (k : ℕ). cond (is_in t (fact_at fs n).given) (suc n) (cond (eqb (fact_at fs n).thread t) 0 k))
          (past.ends t in_range)
          ∙ sym (ends-more fs n t);
      shows = λ p e.
          more.shows p e
          ∙ ap (λ (b : Bool). b || (is_reached fs reads pages n && (ltb n e && is_in p (fact_at fs n).written)))
          (past.shows p e)
          ∙ turned (is_in p pages)
          (any_below (λ w. is_reached fs reads pages w && (ltb w e && writes fs p w)) n)
          (is_reached fs reads pages n && (ltb n e && writes fs p n));
    }
  where
    turned : (a b c : Bool) → ((a || b) || c) ≡ (a || (c || b))
    turned true b c = refl
    turned false true c = sym (or-true c)
    turned false false true = refl
    turned false false false = refl

-- the next step is reached if a reached step leads to it, or if its view shows a page with a change
module _ (fs : List Fact) (reads : List (List ℕ)) (pages : List ℕ) (n : ℕ) where
  abbrev reached : ℕ → Bool
  reached = is_reached fs reads pages

  abbrev is_led : Bool
  is_led = any_below (λ i. reached i && is_last fs n (fact_at fs n).thread i) n

  abbrev is_shown : ℕ → Bool
  is_shown p =
      is_in p pages || any_below (λ w. reached w && (ltb w (giver_end fs n) && writes fs p w)) n

  comes : (w p : ℕ) → w < giver_end fs n → writes fs p w ≡ true → is_in p (read_at reads n) ≡ true
      → comes_to fs reads w n ≡ true
  comes w p early wrote read =
      let both = meets-of p (fact_at fs w).written (read_at reads n) wrote read in
      let given : any_below (λ g. leb w g && gave_at fs g n) n ≡ true =
      last-tells (λ g. gave_at fs g n) w n ∙ lt-ltb w (giver_end fs n) early in
      rw (given, both) refl

  by-leading : any_below (λ i. reached i && leads_to fs reads i n) n ≡ true → reached n ≡ true
  by-leading some = reached-pass fs reads pages n ∙ or-in_right (meets pages (read_at reads n)) _ some

  led-reached : is_led ≡ true → reached n ≡ true
  led-reached led =
      let some = some-below (λ i. reached i && is_last fs n (fact_at fs n).thread i) n led in
      by-leading
      (below-some (λ i. reached i && leads_to fs reads i n) n some.at some.below
      (let one : reached some.at ≡ true = and-left (reached some.at) _ some.is in
      let two : is_last fs n (fact_at fs n).thread some.at ≡ true = and-right (reached some.at) _ some.is in
      rw one (or-in_left (is_last fs n (fact_at fs n).thread some.at) (comes_to fs reads some.at n) two)))

  shown-reached : list_any is_shown (read_at reads n) ≡ true → reached n ≡ true
  shown-reached shown =
      let page = some-listed is_shown (read_at reads n) shown in
      elim (is_or_not (is_in page.value pages)) [
        | inl changed ↦
            reached-pass fs reads pages n
            ∙ or-in_left (meets pages (read_at reads n)) _ (meets-of page.value pages (read_at reads n) changed page.listed)
        | inr isnt ↦
            let some = some-below (λ w. reached w && (ltb w (giver_end fs n) && writes fs page.value w)) n
            (rw isnt at page.is) in
            let one : reached some.at ≡ true = and-left (reached some.at) _ some.is in
            let rest = and-right (reached some.at) _ some.is in
            let is : ltb some.at (giver_end fs n) ≡ true = and-left (ltb some.at (giver_end fs n)) _ rest in
            let early : some.at < giver_end fs n = ltb-true some.at (giver_end fs n) is in
            let wrote = and-right (ltb some.at (giver_end fs n)) _ rest in
            by-leading
            (below-some (λ i. reached i && leads_to fs reads i n) n some.at some.below
            (rw one
            (or-in_right (is_last fs n (fact_at fs n).thread some.at) (comes_to fs reads some.at n)
            (comes some.at page.value early wrote page.listed))))
      ]

  came-shown : (w : ℕ) → w < n → reached w ≡ true → comes_to fs reads w n ≡ true → list_any is_shown (read_at reads n) ≡ true
  came-shown w below is come =
      let given : any_below (λ g. leb w g && gave_at fs g n) n ≡ true =
      and-left (any_below (λ g. leb w g && gave_at fs g n) n) _ come in
      let early : ltb w (giver_end fs n) ≡ true = sym (last-tells (λ g. gave_at fs g n) w n) ∙ given in
      let both = and-right (any_below (λ g. leb w g && gave_at fs g n) n) _ come in
      let page = some-listed (λ p. is_in p (read_at reads n)) (fact_at fs w).written both in
      listed-some is_shown (read_at reads n) page.value page.is
      (or-in_right (is_in page.value pages) _
      (below-some (λ i. reached i && (ltb i (giver_end fs n) && writes fs page.value i)) n w below
      (rw (is, early) page.listed)))

  next-reported : reached n ≡ true → (is_led || list_any is_shown (read_at reads n)) ≡ true
  next-reported is =
      let why = sym (reached-pass fs reads pages n) ∙ is in
      elim (is_or_not (meets pages (read_at reads n))) [
        | inl start ↦
            let page = some-listed (λ p. is_in p (read_at reads n)) pages start in
            or-in_right is_led _
            (listed-some is_shown (read_at reads n) page.value page.is
            (or-in_left (is_in page.value pages) _ page.listed))
        | inr none ↦
            let some = some-below (λ i. reached i && leads_to fs reads i n) n (rw none at why) in
            let one : reached some.at ≡ true = and-left (reached some.at) _ some.is in
            let leads : leads_to fs reads some.at n ≡ true = and-right (reached some.at) _ some.is in
            elim (is_or_not (is_last fs n (fact_at fs n).thread some.at)) [
              | inl last ↦
                  or-in_left is_led _
                  (below-some (λ i. reached i && is_last fs n (fact_at fs n).thread i) n some.at some.below
                  (rw one last))
              | inr other ↦
                  or-in_right is_led _ (came-shown some.at some.below one (rw other at leads))
            ]
      ]

  pub next-reached : (is_led || list_any is_shown (read_at reads n)) ≡ reached n
  next-reached =
      both-ways (is_led || list_any is_shown (read_at reads n)) (reached n)
      (λ reported. elim (is_or_not is_led) [
        | inl led ↦ led-reached led
        | inr isnt ↦ shown-reached (rw isnt at reported)
      ])
      next-reported

any-listed : (p q : ℕ → Bool) (ks : List ℕ) → ((k : ℕ) → p k ≡ q k) → list_any p ks ≡ list_any q ks
any-listed p q [] same = refl
any-listed p q (k ∷ ks) same = ap₂ (λ (a b : Bool). a || b) (same k) (any-listed p q ks same)

-- what is kept of the first steps determines whether the next one is reached
pub next-round_text_by :
    (fs : List Fact) (reads : List (List ℕ)) (pages : List ℕ) (n : ℕ) (past : Reached) (f : Fact) (slots : List ℕ)
    → IsReachedPast fs reads pages n past → f ≡ fact_at fs n → slots ≡ read_at reads n → f.thread < THREADS
    → (led_of past f.thread || list_any (λ p. shows past.changes p (end_of past f.thread)) slots)
    ≡ is_reached fs reads pages n
next-round_text_by fs reads pages n past f slots kept is own known =
    let t = f.thread in
    let same : t ≡ (fact_at fs n).thread = ap (λ (g : Fact). g.thread) is in
    ap₂ (λ (a b : Bool). a || b)
    (kept.led t known
    ∙ ap (λ (u : ℕ). any_below (λ i. is_reached fs reads pages i && is_last fs n u i) n) same)
    (any-listed (λ p. shows past.changes p (end_of past t)) (is_shown fs reads pages n) slots
    (λ p.
    ap (shows past.changes p)
    (kept.ends t known ∙ ap (λ (u : ℕ). last_below (gives fs n u) n) same)
    ∙ kept.shows p (giver_end fs n))
    ∙ ap (list_any (is_shown fs reads pages n)) own)
    ∙ next-reached fs reads pages n
