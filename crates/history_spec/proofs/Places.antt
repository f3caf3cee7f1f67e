-- A reordering by places is an order that keeps what must come before.
use Rattle.std.proofs.Common.{◌≡◌, ◌≢◌, ◌<◌, ◌≤◌, ◌+◌, ℕ, zero, suc, Bool, true, false, ◌&&◌, ◌||◌, not, eqb, ltb, leb, cond, List, [], ◌∷◌, length, get_or, refl, ap, ap₂, sym, ◌∙◌, subst, inl, inr, arith}
use Rattle.std.proofs.lemmas.Bool.{cases_eq, cases_lt, eq-eqb, eqb-true}
use Rattle.std.proofs.lemmas.Bool.Decides.{nat_tests}
use Rattle.history_spec.specs.Facts.{Fact}
use Rattle.history_spec.specs.Before.{is_in, meets, overlap, before, no_fact, fact_at, all_below, is_next_at, before_at}
use Rattle.history_spec.specs.Keeping.{moved, rest_of, fact_thread, may_come, keeps}
use Rattle.history_spec.specs.Orders.{is_order_after, is_order, threads_at}
use Rattle.history_spec.proofs.Lists.{and-left, and-right, or-left, or-right, or-in_left, or-in_right, is_or_not, not-true}

-- the facts at places that haven't come, the first of which is at place k
abbrev pub left_from : {A : Type 0} → ℕ → List ℕ → List A → List A
left_from k come [] = []
left_from k come (f ∷ fs) = cond (is_in k come) (left_from (suc k) come fs) (f ∷ left_from (suc k) come fs)

pub left-above :
    {A : Type 0} → (k j : ℕ) (come : List ℕ) (fs : List A) → j < k → left_from k (j ∷ come) fs ≡ left_from k come fs
left-above k j come [] below = refl
left-above k j come (f ∷ fs) below =
    let isnt : eqb j k ≡ false = grind (arith, nat_tests) in
    rw isnt (ap (λ (rest : List _). cond (is_in k come) rest (f ∷ rest)) (left-above (suc k) j come fs (omega arith)))

-- the facts of the places that haven't come, with that of the next one, j, moved to the front
pub record IsNext (t : ℕ) (gs : List Fact) (g : Fact) (rest : List Fact) : Type 0 where
  pub may : may_come t gs ≡ true
  pub front : moved fact_thread t gs ≡ g ∷ rest

pub walk :
    (come : List ℕ) (look : ℕ → Fact) (j : ℕ) (gs : List Fact) (k : ℕ)
    → is_in j come ≡ false → k ≤ j → j < k + length gs
    → ((i : ℕ) → get_or gs i no_fact ≡ look (k + i))
    → ((i : ℕ) → k ≤ i → i < j → is_in i come ≡ false → before (look i) (look j) ≡ false)
    → IsNext (look j).thread (left_from k come gs) (look j) (left_from k (j ∷ come) gs)
walk come look j [] k isnt low high at free = absurd (omega arith)
walk come look j (g ∷ gs) k isnt low high at free =
    elim (cases_eq k j) [
      | inl same ↦
          let g_is : g ≡ look j = at 0 ∙ ap look (omega arith) in
          let none : is_in k come ≡ false = rw same isnt in
          let own : eqb g.thread (look j).thread ≡ true =
          eq-eqb g.thread (look j).thread (ap (λ (f : Fact). f.thread) g_is) in
          let is : eqb j k ≡ true = eq-eqb j k (sym same) in
          record {
            may = rw (none, own) refl;
            front =
                rw (none, own, is)
                (ap₂ (λ (f : Fact) (rest : List Fact). f ∷ rest) g_is
                (sym (left-above (suc k) j come gs (omega arith))));
          }
      | inr other ↦
          let next : IsNext (look j).thread (left_from (suc k) come gs) (look j) (left_from (suc k) (j ∷ come) gs) =
          walk come look j gs (suc k) isnt (omega arith) (omega arith) (λ i. at (suc i) ∙ ap look (omega arith))
          (λ i lo hi none. free i (omega arith) hi none) in
          let not_j : eqb j k ≡ false = grind (arith, nat_tests) in
          rw not_j (here other next (is_in k come) refl)
    ]
  where
    here :
        k ≢ j
        → IsNext (look j).thread (left_from (suc k) come gs) (look j) (left_from (suc k) (j ∷ come) gs)
        → (b : Bool) → is_in k come ≡ b
        → IsNext (look j).thread (cond b (left_from (suc k) come gs) (g ∷ left_from (suc k) come gs)) (look j)
        (cond b (left_from (suc k) (j ∷ come) gs) (g ∷ left_from (suc k) (j ∷ come) gs))
    here other next true is = next
    here other next false none =
        let g_is : g ≡ look k = at 0 ∙ ap look (omega arith) in
        let apart : before g (look j) ≡ false =
        ap (λ (f : Fact). before f (look j)) g_is ∙ free k (omega arith) (omega arith) none in
        let not_own : eqb g.thread (look j).thread ≡ false = or-left (eqb g.thread (look j).thread) _ apart in
        record {
          may = rw (not_own, next.may, next.front) (ap not apart);
          front = rw (not_own, next.front) refl;
        }

pub below-all : (test : ℕ → Bool) (n i : ℕ) → all_below test n ≡ true → i < n → test i ≡ true
below-all test zero i all below = absurd (omega arith)
below-all test (suc n) i all below =
    elim (cases_eq i n) [
      | inl same ↦ rw same (and-left (test n) (all_below test n) all)
      | inr other ↦ below-all test n i (and-right (test n) (all_below test n) all) (omega arith)
    ]

-- the parts of the test by places
record IsApartAt (fs : List Fact) (i j : ℕ) : Type 0 where
  pub thread : eqb (fact_at fs i).thread (fact_at fs j).thread ≡ false
  pub given : (is_in (fact_at fs j).thread (fact_at fs i).given && is_next_at fs i j) ≡ false
  pub rest :
      (overlap (fact_at fs i).objects (fact_at fs j).objects
      || (meets (fact_at fs i).written (fact_at fs j).written || (meets (fact_at fs i).written (fact_at fs j).opened
      || (meets (fact_at fs i).opened (fact_at fs j).written || (fact_at fs j).last)))) ≡ false

apart-at : (fs : List Fact) (i j : ℕ) → before_at fs i j ≡ false → IsApartAt fs i j
apart-at fs i j free =
    record {
      thread = or-left (eqb (fact_at fs i).thread (fact_at fs j).thread) _ free;
      given =
          or-left (is_in (fact_at fs j).thread (fact_at fs i).given && is_next_at fs i j) _
          (or-right (eqb (fact_at fs i).thread (fact_at fs j).thread) _ free);
      rest =
          or-right (is_in (fact_at fs j).thread (fact_at fs i).given && is_next_at fs i j) _
          (or-right (eqb (fact_at fs i).thread (fact_at fs j).thread) _ free);
    }

-- a set of places that has all that must come before each of them
abbrev pub IsClosed : List Fact → List ℕ → Type 0
IsClosed fs come = (i k : ℕ) → i < k → is_in k come ≡ true → before_at fs i k ≡ true → is_in i come ≡ true

pub same-thread : (fs : List Fact) (i k : ℕ) → (fact_at fs i).thread ≡ (fact_at fs k).thread → before_at fs i k ≡ true
same-thread fs i k same =
    or-in_left (eqb (fact_at fs i).thread (fact_at fs k).thread) _
    (eq-eqb (fact_at fs i).thread (fact_at fs k).thread same)

pub given-next :
    (fs : List Fact) (i k : ℕ) → is_in (fact_at fs k).thread (fact_at fs i).given ≡ true → is_next_at fs i k ≡ true
    → before_at fs i k ≡ true
given-next fs i k gives next =
    or-in_right (eqb (fact_at fs i).thread (fact_at fs k).thread) _
    (or-in_left (is_in (fact_at fs k).thread (fact_at fs i).given && is_next_at fs i k) _ (rw (gives, next) refl))

-- a step that hasn't come, and needn't come before j, gave no view to j's thread
next-below :
    (fs : List Fact) (come : List ℕ) (i j : ℕ)
    → IsClosed fs come → is_in i come ≡ false → ((k : ℕ) → k < j → before_at fs k j ≡ true → is_in k come ≡ true)
    → is_in (fact_at fs j).thread (fact_at fs i).given ≡ true
    → (n : ℕ) → n ≤ j → all_below (λ k. leb k i || not (eqb (fact_at fs k).thread (fact_at fs j).thread)) n ≡ true
next-below fs come i j closed isnt came gives zero low = refl
next-below fs come i j closed isnt came gives (suc n) low =
    let all : all_below (λ k. leb k i || not (eqb (fact_at fs k).thread (fact_at fs j).thread)) n ≡ true =
    next-below fs come i j closed isnt came gives n (omega arith) in
    rw (here all (eqb (fact_at fs n).thread (fact_at fs j).thread) refl) all
  where
    here :
        all_below (λ k. leb k i || not (eqb (fact_at fs k).thread (fact_at fs j).thread)) n ≡ true
        → (b : Bool) → eqb (fact_at fs n).thread (fact_at fs j).thread ≡ b → (leb n i || not b) ≡ true
    here all false is = or-in_right (leb n i) true refl
    here all true is =
        elim (cases_lt i n) [
          | inr past ↦ or-in_left (leb n i) false (grind (arith, nat_tests))
          | inl below ↦
              let same : (fact_at fs n).thread ≡ (fact_at fs j).thread =
              eqb-true (fact_at fs n).thread (fact_at fs j).thread is in
              let n_came : is_in n come ≡ true = came n (omega arith) (same-thread fs n j same) in
              let next : is_next_at fs i n ≡ true =
              subst (λ (t : ℕ). all_below (λ k. leb k i || not (eqb (fact_at fs k).thread t)) n ≡ true)
              (sym same) all in
              let gives_n : is_in (fact_at fs n).thread (fact_at fs i).given ≡ true =
              subst (λ (t : ℕ). is_in t (fact_at fs i).given ≡ true) (sym same) gives in
              let i_came : is_in i come ≡ true = closed i n below n_came (given-next fs i n gives_n next) in
              absurd (cc)
        ]

pub free-at :
    (fs : List Fact) (come : List ℕ) (i j : ℕ)
    → IsClosed fs come → i < j → is_in i come ≡ false
    → ((k : ℕ) → k < j → before_at fs k j ≡ true → is_in k come ≡ true)
    → before (fact_at fs i) (fact_at fs j) ≡ false
free-at fs come i j closed below isnt came =
    let free : before_at fs i j ≡ false = (elim (is_or_not (before_at fs i j)) [
      | inl is ↦ absurd (let i_came = came i below is in cc)
      | inr none ↦ none
    ]) in
    let apart = apart-at fs i j free in
    let not_given : is_in (fact_at fs j).thread (fact_at fs i).given ≡ false =
    (elim (is_or_not (is_in (fact_at fs j).thread (fact_at fs i).given)) [
      | inr none ↦ none
      | inl gives ↦
          let next : is_next_at fs i j ≡ true = next-below fs come i j closed isnt came gives j (omega arith) in
          absurd (let both : (is_in (fact_at fs j).thread (fact_at fs i).given && is_next_at fs i j) ≡ true =
          rw (gives, next) refl in let neither = apart.given in cc)
    ]) in
    rw (apart.thread, not_given) apart.rest

keeps-step :
    (t : ℕ) (s : List ℕ) (gs : List Fact) → may_come t gs ≡ true → keeps (rest_of (moved fact_thread t gs)) s ≡ true
    → keeps gs (t ∷ s) ≡ true
keeps-step t s [] may later = cc
keeps-step t s (g ∷ gs) may later = rw may later

pub all-came :
    {A : Type 0} → (k : ℕ) (come : List ℕ) (gs : List A) → ((i : ℕ) → k ≤ i → i < k + length gs → is_in i come ≡ true)
    → left_from k come gs ≡ []
all-came k come [] all = refl
all-came k come (g ∷ gs) all =
    let is : is_in k come ≡ true = all k (omega arith) (omega arith) in
    rw is (all-came (suc k) come gs (λ i low high. all i (omega arith) (omega arith)))

pub none-came : {A : Type 0} → (k : ℕ) (gs : List A) → left_from k [] gs ≡ gs
none-came k [] = refl
none-came k (g ∷ gs) = ap (λ (rest : List _). g ∷ rest) (none-came (suc k) gs)

pub or-true : (a b : Bool) → (a || not b) ≡ true → b ≡ true → a ≡ true
or-true true b h is = refl
or-true false true h is = cc
or-true false false h is = cc

-- place j comes next, after places that have come with all that must come before them
pub record IsComing (fs : List Fact) (come : List ℕ) (j : ℕ) (ps : List ℕ) : Type 0 where
  pub below : j < length fs
  pub new : is_in j come ≡ false
  pub came : (k : ℕ) → k < j → before_at fs k j ≡ true → is_in k come ≡ true
  pub closed : IsClosed fs (j ∷ come)
  pub later : is_order_after fs (j ∷ come) ps ≡ true

pub coming-of :
    (fs : List Fact) (come : List ℕ) (j : ℕ) (ps : List ℕ)
    → IsClosed fs come → is_order_after fs come (j ∷ ps) ≡ true → IsComing fs come j ps
coming-of fs come j ps closed order =
    let first = and-left (ltb j (length fs) && not (is_in j come)) _ order in
    let second = and-right (ltb j (length fs) && not (is_in j come)) _ order in
    let test : all_below (λ i. is_in i come || not (before_at fs i j)) j ≡ true =
    and-left _ (is_order_after fs (j ∷ come) ps) second in
    let below_bit : ltb j (length fs) ≡ true = and-left (ltb j (length fs)) (not (is_in j come)) first in
    let came : (k : ℕ) → k < j → before_at fs k j ≡ true → is_in k come ≡ true =
    λ k less is.
    or-true (is_in k come) (before_at fs k j)
    (below-all (λ i. is_in i come || not (before_at fs i j)) j k test less) is in
    record {
      below = grind (arith, nat_tests);
      new = not-true (is_in j come) (and-right (ltb j (length fs)) (not (is_in j come)) first);
      came = came;
      closed = λ i k less there is.
          or-in_right (eqb j i) (is_in i come)
          (elim (cases_eq j k) [
            | inl same ↦ came i (omega arith) (subst (λ (x : ℕ). before_at fs i x ≡ true) (sym same) is)
            | inr other ↦
                closed i k less (let isnt_k : eqb j k ≡ false = grind (arith, nat_tests) in rw isnt_k at there) is
          ]);
      later =
          and-right (all_below (λ i. is_in i come || not (before_at fs i j)) j) (is_order_after fs (j ∷ come) ps)
          second;
    }

order-keeps :
    (fs : List Fact) (ps come : List ℕ)
    → IsClosed fs come → is_order_after fs come ps ≡ true
    → keeps (left_from 0 come fs) (threads_at fs ps) ≡ true
order-keeps fs [] come closed order =
    let none : left_from 0 come fs ≡ [] =
    all-came 0 come fs (λ i low high. below-all (λ k. is_in k come) (length fs) i order (omega arith)) in
    rw none refl
order-keeps fs (j ∷ ps) come closed order =
    let coming = coming-of fs come j ps closed order in
    let below = coming.below in
    let next : IsNext (fact_at fs j).thread (left_from 0 come fs) (fact_at fs j) (left_from 0 (j ∷ come) fs) =
    walk come (fact_at fs) j fs 0 coming.new (omega arith) (omega arith) (λ i. ap (fact_at fs) (omega arith))
    (λ i low less none. free-at fs come i j closed less none coming.came) in
    keeps-step (fact_at fs j).thread (threads_at fs ps) (left_from 0 come fs) next.may
    (rw next.front (order-keeps fs ps (j ∷ come) coming.closed coming.later))

-- a reordering by places is an order that keeps what must come before
pub places-keep : (fs : List Fact) (ps : List ℕ) → is_order fs ps ≡ true → keeps fs (threads_at fs ps) ≡ true
places-keep fs ps order =
    subst (λ (gs : List Fact). keeps gs (threads_at fs ps) ≡ true) (none-came 0 fs)
    (order-keeps fs ps [] (λ i k less there is. cc) order)
