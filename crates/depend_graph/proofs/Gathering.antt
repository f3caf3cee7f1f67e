-- The clocks that are joined for a step are those of the steps that must come directly before it.
use Rattle.std.proofs.Common.{◌≡◌, ◌<◌, ◌≤◌, ℕ, zero, suc, max, Bool, true, false, ◌||◌, ◌⊎◌, eqb, cond, List, [], ◌∷◌, slice_index, refl, ap, sym, ◌∙◌, subst, inl, inr, arith}
use Rattle.std.specs.List.{list_any}
use Rattle.std.proofs.lemmas.Bool.{eq-eqb}
use Rattle.guest_call.specs.declared.thread_number.TheConstants.{THREADS}
use Rattle.guest_call.specs.declared.Object.{Object}
use Rattle.guest_call.specs.Locality.{is_among, same_object}
use Rattle.history_spec.specs.Facts.{Fact}
use Rattle.history_spec.specs.Before.{is_in, meets, overlap, fact_at, before_at}
use Rattle.history_spec.specs.Ancestors.{any_below}
use Rattle.history_spec.proofs.Lists.{or-in_left, or-in_right, is_or_not, meets-not, overlap-not}
use Rattle.history_spec.proofs.Clocks.{below-some}
use Rattle.depend_graph.specs.Joins.{count_up_to, IsJoinOf}
use Rattle.depend_graph.specs.Clocks.{thread_clock, object_clock, page_clock, largest_at, largest_below, IsLargerOf}
use Rattle.depend_graph.specs.declared.past.Past.{Past}
use Rattle.depend_graph.specs.Past.{IsPastOf, is_of, acts_on, writes, opens, gives}
use Rattle.depend_graph.proofs.Joins.{count_up_to-union, count_up_to-same, join-same, join-union, join-none}
use Rattle.depend_graph.proofs.Named.{same-own}

-- lists that have something in common

bool-is : (a b : Bool) → (a ≡ true → b ≡ true) → (b ≡ true → a ≡ true) → a ≡ b
bool-is true b to from = sym (to refl)
bool-is false true to from = from refl
bool-is false false to from = refl

meets-back : (ks ls : List ℕ) → meets ks ls ≡ true → meets ls ks ≡ true
meets-back ks ls is = here ks (λ k at. at) is
  where
    apart :
        (k : ℕ) → is_in k ks ≡ true → is_in k ls ≡ true → (meets ls ks ≡ true) ⊎ (meets ls ks ≡ false)
        → meets ls ks ≡ true
    apart k own other (inl meet) = meet
    apart k own other (inr none) = let out = meets-not k ls ks none other in cc

    here :
        (rest : List ℕ) → ((k : ℕ) → is_in k rest ≡ true → is_in k ks ≡ true) → meets rest ls ≡ true
        → meets ls ks ≡ true
    here [] within is = cc
    here (k ∷ rest) within is =
        elim (is_or_not (is_in k ls)) [
          | inl other ↦
              let own : eqb k k ≡ true = eq-eqb k k refl in
              apart k (within k (or-in_left (eqb k k) (is_in k rest) own)) other (is_or_not (meets ls ks))
          | inr isnt ↦ here rest (λ j at. within j (or-in_right (eqb k j) (is_in j rest) at)) (rw isnt at is)
        ]

meets-same : (ks ls : List ℕ) → meets ks ls ≡ meets ls ks
meets-same ks ls = bool-is (meets ks ls) (meets ls ks) (meets-back ks ls) (meets-back ls ks)

overlap-back : (os qs : List Object) → overlap os qs ≡ true → overlap qs os ≡ true
overlap-back os qs is = here os (λ o at. at) is
  where
    apart :
        (o : Object) → is_among o os ≡ true → is_among o qs ≡ true → (overlap qs os ≡ true) ⊎ (overlap qs os ≡ false)
        → overlap qs os ≡ true
    apart o own other (inl both) = both
    apart o own other (inr none) = let out = overlap-not o qs os none other in cc

    here :
        (rest : List Object) → ((o : Object) → is_among o rest ≡ true → is_among o os ≡ true) → overlap rest qs ≡ true
        → overlap qs os ≡ true
    here [] within is = cc
    here (o ∷ rest) within is =
        elim (is_or_not (is_among o qs)) [
          | inl other ↦
              apart o (within o (or-in_left (same_object o o) (is_among o rest) (same-own o))) other
              (is_or_not (overlap qs os))
          | inr isnt ↦ here rest (λ q at. within q (or-in_right (same_object q o) (is_among q rest) at)) (rw isnt at is)
        ]

overlap-same : (os qs : List Object) → overlap os qs ≡ overlap qs os
overlap-same os qs = bool-is (overlap os qs) (overlap qs os) (overlap-back os qs) (overlap-back qs os)

-- clocks of several things

no-count : (fs : List Fact) (n t : ℕ) → t < THREADS → count_up_to fs (λ i. false) n t ≡ 0
no-count fs n t few = sym ((join-none fs (λ i. false) n [] (λ i below. refl) (λ t. refl)).counts t few)

largest-counts :
    {K : Type 0} (fs : List Fact) (test : K → ℕ → Bool) (n : ℕ) (clock : K → List ℕ)
    → ((k : K) → IsJoinOf fs (test k) n (clock k))
    → (ks : List K) (t : ℕ) → t < THREADS
    → largest_at clock ks t ≡ count_up_to fs (λ i. list_any (λ k. test k i) ks) n t
largest-counts fs test n clock join [] t few = sym (no-count fs n t few)
largest-counts fs test n clock join (k ∷ ks) t few =
    let rest = largest-counts fs test n clock join ks t few in
    let first = (join k).counts t few in
    let both = count_up_to-union fs (test k) (λ i. list_any (λ k. test k i) ks) n t in
    rw (first, rest) (sym both)

below-counts :
    (fs : List Fact) (test : ℕ → ℕ → Bool) (n : ℕ) (clock : ℕ → List ℕ) (m : ℕ)
    → ((k : ℕ) → k < m → IsJoinOf fs (test k) n (clock k))
    → (t : ℕ) → t < THREADS
    → largest_below clock m t ≡ count_up_to fs (λ i. any_below (λ k. test k i) m) n t
below-counts fs test n clock zero join t few = sym (no-count fs n t few)
below-counts fs test n clock (suc m) join t few =
    let rest = below-counts fs test n clock m (λ k low. join k (omega arith)) t few in
    let first = (join m (omega arith)).counts t few in
    let both = count_up_to-union fs (test m) (λ i. any_below (λ k. test k i) m) n t in
    rw (first, rest) (sym both)

last-counts :
    (fs : List Fact) (n : ℕ) (clock : ℕ → List ℕ) (m : ℕ)
    → ((k : ℕ) → k < m → IsJoinOf fs (is_of fs k) n (clock k))
    → ((i : ℕ) → i < n → (fact_at fs i).thread < m)
    → (t : ℕ) → t < THREADS
    → largest_below clock m t ≡ count_up_to fs (λ i. true) n t
last-counts fs n clock m join known t few =
    below-counts fs (is_of fs) n clock m join t few
    ∙ count_up_to-same fs (λ i. any_below (λ k. is_of fs k i) m) (λ i. true) n t (λ i below is. refl)
    (λ i below is.
    below-some (λ k. is_of fs k i) m (fact_at fs i).thread (known i below)
    (eq-eqb (fact_at fs i).thread (fact_at fs i).thread refl))

join-counts :
    (fs : List Fact) (p q : ℕ → Bool) (n : ℕ) (a c : List ℕ) (count : ℕ → ℕ)
    → IsJoinOf fs p n a
    → ((t : ℕ) → t < THREADS → count t ≡ count_up_to fs q n t)
    → ((t : ℕ) → slice_index c t ≡ max (slice_index a t) (count t))
    → IsJoinOf fs (λ i. p i || q i) n c
join-counts fs p q n a c count first second larger =
    record {
      counts =
          λ t few.
          let one = first.counts t few in
          let two = second t few in
          let all = count_up_to-union fs p q n t in
          let here = larger t in
          rw (here, one, two) (sym all);
    }

-- what must come before a step, by its fact
abbrev before_by : List Fact → ℕ → ℕ → Fact → Bool
before_by fs n i f =
    is_of fs f.thread i
    || (gives fs n f.thread i
    || (overlap (fact_at fs i).objects f.objects
    || (meets (fact_at fs i).written f.written
    || (meets (fact_at fs i).written f.opened || (meets (fact_at fs i).opened f.written || f.last)))))

-- the clocks that are joined for a step
pub record IsGathered (past : Past) (f : Fact) (clock : List ℕ) : Type 0 where
  pub blank : List ℕ
  pub own : List ℕ
  pub given : List ℕ
  pub acted : List ℕ
  pub wrote : List ℕ
  pub opened : List ℕ
  pub over : List ℕ
  pub is_blank : (t : ℕ) → slice_index blank t ≡ 0
  pub is_own : IsLargerOf own blank (thread_clock past.threads f.thread)
  pub is_given : IsLargerOf given own (thread_clock past.givers f.thread)
  pub is_acted :
      (t : ℕ) → slice_index acted t ≡ max (slice_index given t) (largest_at (object_clock past.objects) f.objects t)
  pub is_wrote :
      (t : ℕ) → slice_index wrote t ≡ max (slice_index acted t) (largest_at (page_clock past.writers) f.written t)
  pub is_opened :
      (t : ℕ) → slice_index opened t ≡ max (slice_index wrote t) (largest_at (page_clock past.writers) f.opened t)
  pub is_over :
      (t : ℕ) → slice_index over t ≡ max (slice_index opened t) (largest_at (page_clock past.openers) f.written t)
  pub is_last :
      (t : ℕ) → slice_index clock t
      ≡ max (slice_index over t) (cond f.last (largest_below (thread_clock past.threads) THREADS t) 0)

regroup :
    (a b c d e f l : Bool)
    → (((((((false || a) || b) || c) || d) || e) || f) || l) ≡ (a || (b || (c || (d || (e || (f || l))))))
regroup true b c d e f l = refl
regroup false true c d e f l = refl
regroup false false true d e f l = refl
regroup false false false true e f l = refl
regroup false false false false true f l = refl
regroup false false false false false true l = refl
regroup false false false false false false l = refl

-- some test of these
abbrev touches : List Fact → ℕ → Fact → ℕ → Bool
touches fs n f i =
    (((((false || is_of fs f.thread i) || gives fs n f.thread i) || list_any (λ o. acts_on fs o i) f.objects)
    || list_any (λ p. writes fs p i) f.written)
    || list_any (λ p. writes fs p i) f.opened)
    || list_any (λ p. opens fs p i) f.written

touches-before : (fs : List Fact) (n : ℕ) (f : Fact) (i : ℕ) → (touches fs n f i || f.last) ≡ before_by fs n i f
touches-before fs n f i =
    let objects = overlap-same f.objects (fact_at fs i).objects in
    let wrote = meets-same f.written (fact_at fs i).written in
    let opened = meets-same f.opened (fact_at fs i).written in
    let over = meets-same f.written (fact_at fs i).opened in
    rw (objects, wrote, opened, over)
    (regroup (is_of fs f.thread i) (gives fs n f.thread i) (overlap (fact_at fs i).objects f.objects)
    (meets (fact_at fs i).written f.written) (meets (fact_at fs i).written f.opened)
    (meets (fact_at fs i).opened f.written) f.last)

touched :
    (fs : List Fact) (n : ℕ) (past : Past) (f : Fact) (clock : List ℕ)
    → f.thread < THREADS → IsPastOf fs n past → (g : IsGathered past f clock) → IsJoinOf fs (touches fs n f) n g.over
touched fs n past f clock few of g =
    let none = join-none fs (λ i. false) n g.blank (λ i below. refl) g.is_blank in
    let own =
    join-union fs (λ i. false) (is_of fs f.thread) n g.blank (thread_clock past.threads f.thread) g.own g.is_own none
    (of.threads f.thread few) in
    let given =
    join-union fs (λ i. false || is_of fs f.thread i) (gives fs n f.thread) n g.own
    (thread_clock past.givers f.thread) g.given
    g.is_given own (of.givers f.thread few) in
    let acted =
    join-counts fs (λ i. (false || is_of fs f.thread i) || gives fs n f.thread i)
    (λ i. list_any (λ o. acts_on fs o i) f.objects) n
    g.given g.acted (largest_at (object_clock past.objects) f.objects) given
    (largest-counts fs (acts_on fs) n (object_clock past.objects) of.objects f.objects) g.is_acted in
    let wrote =
    join-counts fs
    (λ i. ((false || is_of fs f.thread i) || gives fs n f.thread i) || list_any (λ o. acts_on fs o i) f.objects)
    (λ i. list_any (λ p. writes fs p i) f.written) n g.acted g.wrote
    (largest_at (page_clock past.writers) f.written) acted
    (largest-counts fs (writes fs) n (page_clock past.writers) of.writers f.written) g.is_wrote in
    let opened =
    join-counts fs
    (λ i. (((false || is_of fs f.thread i) || gives fs n f.thread i) || list_any (λ o. acts_on fs o i) f.objects)
    || list_any (λ p. writes fs p i) f.written)
    (λ i. list_any (λ p. writes fs p i) f.opened) n g.wrote g.opened
    (largest_at (page_clock past.writers) f.opened) wrote
    (largest-counts fs (writes fs) n (page_clock past.writers) of.writers f.opened) g.is_opened in
    join-counts fs
    (λ i. ((((false || is_of fs f.thread i) || gives fs n f.thread i) || list_any (λ o. acts_on fs o i) f.objects)
    || list_any (λ p. writes fs p i) f.written)
    || list_any (λ p. writes fs p i) f.opened)
    (λ i. list_any (λ p. opens fs p i) f.written) n g.opened g.over
    (largest_at (page_clock past.openers) f.written) opened
    (largest-counts fs (opens fs) n (page_clock past.openers) of.openers f.written) g.is_over

-- the clock that is joined for a step is the join of those of the steps that must come directly before it
pub gathered-join :
    (fs : List Fact) (n : ℕ) (past : Past) (f : Fact) (clock : List ℕ)
    → f ≡ fact_at fs n
    → ((i : ℕ) → i ≤ n → (fact_at fs i).thread < THREADS)
    → IsPastOf fs n past → IsGathered past f clock → IsJoinOf fs (λ i. before_at fs i n) n clock
gathered-join fs n past f clock here known of g = by_last f.last refl g.is_last
  where
    few : f.thread < THREADS
    few = subst (λ (x : Fact). x.thread < THREADS) (sym here) (known n (omega arith))

    is : (i : ℕ) → (touches fs n f i || f.last) ≡ before_at fs i n
    is i = touches-before fs n f i ∙ ap (λ (x : Fact). before_by fs n i x) here

    none : (t : ℕ) → t < THREADS → 0 ≡ count_up_to fs (λ i. false) n t
    none t low = sym (no-count fs n t low)

    by_last :
        (b : Bool) → f.last ≡ b
        → ((t : ℕ)
        → slice_index clock t
        ≡ max (slice_index g.over t) (cond b (largest_below (thread_clock past.threads) THREADS t) 0))
        → IsJoinOf fs (λ i. before_at fs i n) n clock
    by_last true last larger =
        join-same fs (λ i. touches fs n f i || true) (λ i. before_at fs i n) n clock
        (λ i below one. sym (is i) ∙ (rw last one)) (λ i below one. rw last at (is i ∙ one))
        (join-counts fs (touches fs n f) (λ i. true) n g.over clock (largest_below (thread_clock past.threads) THREADS)
        (touched fs n past f clock few of g)
        (last-counts fs n (thread_clock past.threads) THREADS of.threads (λ i below. known i (omega arith))) larger)
    by_last false last larger =
        join-same fs (λ i. touches fs n f i || false) (λ i. before_at fs i n) n clock
        (λ i below one. sym (is i) ∙ (rw last one)) (λ i below one. rw last at (is i ∙ one))
        (join-counts fs (touches fs n f) (λ i. false) n g.over clock (λ t. 0)
        (touched fs n past f clock few of g) none larger)
