-- After one more step, the clocks are joined by what the steps did, as before.
use Rattle.std.proofs.Common.{◌≡◌, ◌≢◌, ◌<◌, ℕ, zero, suc, Bool, true, false, ◌&&◌, ◌||◌, not, eqb, leb, List, slice_index, refl, ap, sym, ◌∙◌, subst, inl, inr, arith}
use Rattle.std.proofs.lemmas.Bool.{cases_eq, eq-eqb, eqb-true, ne_eqb, le-leb, lt-leb}
use Rattle.guest_call.specs.declared.thread_number.TheConstants.{THREADS}
use Rattle.guest_call.specs.declared.Object.{Object}
use Rattle.guest_call.specs.Locality.{is_among}
use Rattle.history_spec.specs.Facts.{Fact}
use Rattle.history_spec.specs.Before.{is_in, fact_at, all_below}
use Rattle.history_spec.proofs.Lists.{is_or_not}
use Rattle.depend_graph.specs.Joins.{IsJoinOf, IsClockOf}
use Rattle.depend_graph.specs.Clocks.{thread_clock, object_clock, page_clock, IsLargerOf}
use Rattle.depend_graph.specs.declared.threads.ThreadClocks.{ThreadClocks}
use Rattle.depend_graph.specs.declared.past.Past.{Past}
use Rattle.depend_graph.specs.Past.{IsPastOf, is_of, acts_on, writes, opens, gives}
use Rattle.depend_graph.proofs.Joins.{join-same, join-stay, join-add, join-none}

-- What a step changes.
pub record IsPassed (past after : Past) (f : Fact) (clock : List ℕ) : Type 0 where
  pub thread_at : IsLargerOf (thread_clock after.threads f.thread) (thread_clock past.threads f.thread) clock
  pub thread_others : (u : ℕ) → u ≢ f.thread → thread_clock after.threads u ≡ thread_clock past.threads u
  pub cleared : ThreadClocks
  pub cleared_at : (u : ℕ) → slice_index (thread_clock cleared f.thread) u ≡ 0
  pub cleared_others : (u : ℕ) → u ≢ f.thread → thread_clock cleared u ≡ thread_clock past.givers u
  pub given_at :
      (u : ℕ) → u < THREADS → is_in u f.given ≡ true
      → IsLargerOf (thread_clock after.givers u) (thread_clock cleared u) clock
  pub given_others : (u : ℕ) → is_in u f.given ≡ false → thread_clock after.givers u ≡ thread_clock cleared u
  pub object_at :
      (o : Object) → is_among o f.objects ≡ true
      → IsLargerOf (object_clock after.objects o) (object_clock past.objects o) clock
  pub object_others :
      (o : Object) → is_among o f.objects ≡ false → object_clock after.objects o ≡ object_clock past.objects o
  pub writer_at :
      (p : ℕ) → is_in p f.written ≡ true → IsLargerOf (page_clock after.writers p) (page_clock past.writers p) clock
  pub writer_others : (p : ℕ) → is_in p f.written ≡ false → page_clock after.writers p ≡ page_clock past.writers p
  pub opener_at :
      (p : ℕ) → is_in p f.opened ≡ true → IsLargerOf (page_clock after.openers p) (page_clock past.openers p) clock
  pub opener_others : (p : ℕ) → is_in p f.opened ≡ false → page_clock after.openers p ≡ page_clock past.openers p

-- the clock of a step that passes the test is joined, and another step changes nothing
either :
    (fs : List Fact) (p : ℕ → Bool) (n : ℕ) (old new clock : List ℕ)
    → (p n ≡ true → IsLargerOf new old clock) → (p n ≡ false → new ≡ old)
    → IsClockOf fs n clock → IsJoinOf fs p n old → IsJoinOf fs p (suc n) new
either fs p n old new clock at others own join =
    elim (is_or_not (p n)) [
      | inl is ↦ join-add fs p n old clock new is (at is) join own
      | inr isnt ↦ subst (λ (c : List ℕ). IsJoinOf fs p (suc n) c) (sym (others isnt)) (join-stay fs p n old isnt join)
    ]

-- which steps gave a view, one step later

pub all-true : (test : ℕ → Bool) (n : ℕ) → ((k : ℕ) → k < n → test k ≡ true) → all_below test n ≡ true
all-true test zero each = refl
all-true test (suc n) each =
    let last = each n (omega arith) in
    let rest = all-true test n (λ k low. each k (omega arith)) in
    rw (last, rest) refl

pub not-all : (test : ℕ → Bool) (n k : ℕ) → k < n → test k ≡ false → all_below test n ≡ false
not-all test zero k low fails = absurd (omega arith)
not-all test (suc n) k low fails =
    elim (cases_eq k n) [
      | inl same ↦ let last : test n ≡ false = subst (λ (x : ℕ). test x ≡ false) same fails in rw last refl
      | inr other ↦ let rest = not-all test n k (omega arith) fails in rw rest (and-none (test n))
    ]
  where
    and-none : (b : Bool) → (b && false) ≡ false
    and-none true = refl
    and-none false = refl

gives-own : (fs : List Fact) (n t : ℕ) → gives fs (suc n) t n ≡ is_in t (fact_at fs n).given
gives-own fs n t =
    let all =
    all-true (λ k. leb k n || not (eqb (fact_at fs k).thread t)) (suc n)
    (λ k low. let le : leb k n ≡ true = le-leb k n (omega arith) in rw le refl) in
    rw all (and-true (is_in t (fact_at fs n).given))
  where
    and-true : (b : Bool) → (b && true) ≡ b
    and-true true = refl
    and-true false = refl

gives-later :
    (fs : List Fact) (n t i : ℕ) → i < n
    → gives fs (suc n) t i
    ≡ (is_in t (fact_at fs i).given
    && (not (eqb (fact_at fs n).thread t) && all_below (λ k. leb k i || not (eqb (fact_at fs k).thread t)) n))
gives-later fs n t i low = let later : leb n i ≡ false = lt-leb n i low in rw later refl

mid-given :
    (fs : List Fact) (n : ℕ) (past : Past) (f : Fact) (cleared : ThreadClocks) (t : ℕ)
    → f ≡ fact_at fs n → t < THREADS
    → ((u : ℕ) → slice_index (thread_clock cleared f.thread) u ≡ 0)
    → ((u : ℕ) → u ≢ f.thread → thread_clock cleared u ≡ thread_clock past.givers u)
    → IsPastOf fs n past → IsJoinOf fs (gives fs (suc n) t) n (thread_clock cleared t)
mid-given fs n past f cleared t here few zeros others of =
    elim (cases_eq f.thread t) [
      | inl same ↦
          let own : eqb (fact_at fs n).thread t ≡ true =
          eq-eqb (fact_at fs n).thread t (ap (λ (x : Fact). x.thread) (sym here) ∙ same) in
          join-none fs (gives fs (suc n) t) n (thread_clock cleared t)
          (λ i low. gives-later fs n t i low ∙ (rw own (and-false (is_in t (fact_at fs i).given))))
          (subst (λ (x : ℕ). (u : ℕ) → slice_index (thread_clock cleared x) u ≡ 0) same zeros)
      | inr other ↦
          let apart : eqb (fact_at fs n).thread t ≡ false = away other in
          subst (λ (c : List ℕ). IsJoinOf fs (gives fs (suc n) t) n c) (sym (others t (λ same. other (sym same))))
          (join-same fs (gives fs n t) (gives fs (suc n) t) n (thread_clock past.givers t)
          (λ i low is. gives-later fs n t i low ∙ (rw apart is))
          (λ i low is. rw apart at (sym (gives-later fs n t i low) ∙ is)) (of.givers t few))
    ]
  where
    and-false : (b : Bool) → (b && false) ≡ false
    and-false true = refl
    and-false false = refl

    away : f.thread ≢ t → eqb (fact_at fs n).thread t ≡ false
    away other =
        let is = ap (λ (x : Fact). x.thread) here in
        ne_eqb (fact_at fs n).thread t (λ same. other (is ∙ same))

-- one more step is past
passed-own :
    (fs : List Fact) (n : ℕ) (past after : Past) (clock : List ℕ)
    → IsPastOf fs n past → IsClockOf fs n clock → IsPassed past after (fact_at fs n) clock → IsPastOf fs (suc n) after
passed-own fs n past after clock of own passed =
    record {
      threads =
          λ t few.
          either fs (is_of fs t) n (thread_clock past.threads t) (thread_clock after.threads t) clock
          (λ is. at_thread t is) (λ isnt. passed.thread_others t (off_thread t isnt)) own (of.threads t few);
      givers =
          λ t few.
          let mid =
          mid-given fs n past (fact_at fs n) passed.cleared t refl few passed.cleared_at passed.cleared_others of in
          either fs (gives fs (suc n) t) n (thread_clock passed.cleared t) (thread_clock after.givers t) clock
          (λ is. passed.given_at t few (sym (gives-own fs n t) ∙ is))
          (λ isnt. passed.given_others t (sym (gives-own fs n t) ∙ isnt)) own mid;
      objects =
          λ o. either fs (acts_on fs o) n (object_clock past.objects o) (object_clock after.objects o) clock
          (passed.object_at o) (passed.object_others o) own (of.objects o);
      writers =
          λ p. either fs (writes fs p) n (page_clock past.writers p) (page_clock after.writers p) clock
          (passed.writer_at p) (passed.writer_others p) own (of.writers p);
      openers =
          λ p. either fs (opens fs p) n (page_clock past.openers p) (page_clock after.openers p) clock
          (passed.opener_at p) (passed.opener_others p) own (of.openers p);
    }
  where
    at_thread :
        (t : ℕ) → is_of fs t n ≡ true → IsLargerOf (thread_clock after.threads t) (thread_clock past.threads t) clock
    at_thread t is =
        let same : (fact_at fs n).thread ≡ t = eqb-true (fact_at fs n).thread t is in
        subst (λ (x : ℕ). IsLargerOf (thread_clock after.threads x) (thread_clock past.threads x) clock) same
        passed.thread_at

    off_thread : (t : ℕ) → is_of fs t n ≡ false → t ≢ (fact_at fs n).thread
    off_thread t isnt = λ same. (let is : is_of fs t n ≡ true = eq-eqb (fact_at fs n).thread t (sym same) in cc)

pub passed-past :
    (fs : List Fact) (n m : ℕ) (past after : Past) (f : Fact) (clock : List ℕ)
    → m ≡ suc n → f ≡ fact_at fs n
    → IsPastOf fs n past → IsClockOf fs n clock → IsPassed past after f clock → IsPastOf fs m after
passed-past fs n m past after f clock next here of own passed =
    subst (λ (k : ℕ). IsPastOf fs k after) (sym next)
    (passed-own fs n past after clock of own (subst (λ (x : Fact). IsPassed past after x clock) here passed))
