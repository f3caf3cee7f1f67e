-- How clocks are joined: the clock of a step is the join of those of the steps directly before it, and one more step.
use Rattle.std.proofs.Common.{◌≡◌, ◌≢◌, ◌<◌, ◌≤◌, ◌+◌, ℕ, zero, suc, max, Bool, true, false, ◌&&◌, ◌||◌, not, ◌⊎◌, eqb, ltb, cond, List, length, slice_index, refl, ap, sym, ◌∙◌, subst, inl, inr, arith}
use Rattle.std.proofs.Math.ListN.{set}
use Rattle.std.proofs.lemmas.List.{get_or-set_other, get_or-set_same}
use Rattle.std.proofs.lemmas.Bool.{cases_eq, cases_lt, eq-eqb, eqb-true, ne_eqb, le-ltb}
use Rattle.guest_call.specs.declared.thread_number.TheConstants.{THREADS}
use Rattle.history_spec.specs.Facts.{Fact}
use Rattle.history_spec.specs.Before.{fact_at, before_at}
use Rattle.history_spec.specs.Ancestors.{any_below, count_below, reaches, is_ancestor, is_up_to, clock_at, number_at}
use Rattle.history_spec.proofs.Lists.{and-left, and-right, or-in_left, or-in_right, is_or_not}
use Rattle.history_spec.proofs.Clocks.{IsSome, some-below, below-some, lt-bit, bit-lt, link, bounded, count-le, count-step, clock-tells}
use Rattle.depend_graph.specs.Joins.{is_up_to_some, count_up_to, IsJoinOf, IsClockOf}

-- two tests that hold of the same numbers hold of equally many

count-same :
    (p q : ℕ → Bool) (n : ℕ)
    → ((k : ℕ) → k < n → p k ≡ true → q k ≡ true)
    → ((k : ℕ) → k < n → q k ≡ true → p k ≡ true)
    → count_below p n ≡ count_below q n
count-same p q n to from = let le = count-le p q n to in let ge = count-le q p n from in omega arith

-- if one of two sets of numbers contains the other, their union has as many numbers as the larger
union-count :
    (a b c : ℕ → Bool) (n : ℕ)
    → ((k : ℕ) → k < n → a k ≡ true → c k ≡ true)
    → ((k : ℕ) → k < n → b k ≡ true → c k ≡ true)
    → ((k : ℕ) → k < n → c k ≡ true → (a k || b k) ≡ true)
    → ((h k : ℕ) → h < k → k < n → a k ≡ true → b h ≡ true → a h ≡ true)
    → ((h k : ℕ) → h < k → k < n → b k ≡ true → a h ≡ true → b h ≡ true)
    → count_below c n ≡ max (count_below a n) (count_below b n)
union-count a b c n a-c b-c either a-closed b-closed =
    elim (is_or_not (any_below (λ k. a k && not (b k)) n)) [
      | inl some ↦ larger (some-below (λ k. a k && not (b k)) n some)
      | inr none ↦
          let a-b : (k : ℕ) → k < n → a k ≡ true → b k ≡ true =
          λ k below is. within k below is (is_or_not (b k)) none in
          let le = count-le a b n a-b in
          let up = count-le c b n
          (λ k below is. or-then (a k) (b k) (b k ≡ true) (a-b k below) (λ e. e) (either k below is)) in
          let down = count-le b c n b-c in
          omega arith
    ]
  where
    or-then : (x y : Bool) (P : Type 0) → (x ≡ true → P) → (y ≡ true → P) → (x || y) ≡ true → P
    or-then true y P left right is = left refl
    or-then false y P left right is = right is

    within :
        (k : ℕ) → k < n → a k ≡ true → (b k ≡ true) ⊎ (b k ≡ false) → any_below (λ k. a k && not (b k)) n ≡ false
        → b k ≡ true
    within k below is (inl there) none = there
    within k below is (inr absent) none =
        let some = below-some (λ k. a k && not (b k)) n k below (rw (is, absent) refl) in cc

    larger : IsSome (λ k. a k && not (b k)) n → count_below c n ≡ max (count_below a n) (count_below b n)
    larger found =
        let is = and-left (a found.at) (not (b found.at)) found.is in
        let isnt = and-right (a found.at) (not (b found.at)) found.is in
        let b-a : (h : ℕ) → h < n → b h ≡ true → a h ≡ true =
        λ h below here.
        (elim (cases_lt h found.at) [
          | inl before ↦ a-closed h found.at before found.below is here
          | inr after ↦
              elim (cases_eq h found.at) [
                | inl same ↦ (rw same is)
                | inr other ↦
                    (let there = b-closed found.at h (omega arith) below here is in
                    let clash : not true ≡ true = rw there at isnt in cc)
              ]
        ]) in
        let le = count-le b a n b-a in
        let up = count-le c a n
        (λ k below is. or-then (a k) (b k) (a k ≡ true) (λ e. e) (b-a k below) (either k below is)) in
        let down = count-le a c n a-c in
        omega arith

-- steps up to some

or-cases : (x y : Bool) (P : Type 0) → (x ≡ true → P) → (y ≡ true → P) → (x || y) ≡ true → P
or-cases true y P left right is = left refl
or-cases false y P left right is = right is

no-step_after : (fs : List Fact) (i k : ℕ) → is_up_to fs i k ≡ true → k ≤ i
no-step_after fs i k up =
    elim (cases_eq k i) [
      | inl same ↦ omega arith
      | inr other ↦
          let isnt : eqb k i ≡ false = ne_eqb k i other in
          let ancestor : is_ancestor fs k i ≡ true = rw isnt at up in
          let earlier = bit-lt k i (and-left (ltb k i) (reaches fs i k i) ancestor) in
          omega arith
    ]

up_to-own : (fs : List Fact) (n : ℕ) → is_up_to fs n n ≡ true
up_to-own fs n = or-in_left (eqb n n) (is_ancestor fs n n) (eq-eqb n n refl)

up_to-later : (fs : List Fact) (i n : ℕ) → i < n → is_up_to fs i n ≡ false
up_to-later fs i n below =
    let apart : eqb n i ≡ false = ne_eqb n i (λ same. omega arith) in
    let after : ltb n i ≡ false = le-ltb n i (omega arith) in
    rw (apart, after) refl

-- if a step is up to some that pass a test, it is up to some that pass a wider one
up_to_some-more :
    (fs : List Fact) (p q : ℕ → Bool) (n k : ℕ)
    → ((i : ℕ) → i < n → p i ≡ true → q i ≡ true)
    → is_up_to_some fs p n k ≡ true → is_up_to_some fs q n k ≡ true
up_to_some-more fs p q n k more up =
    let some = some-below (λ i. p i && is_up_to fs i k) n up in
    let pass = more some.at some.below (and-left (p some.at) (is_up_to fs some.at k) some.is) in
    let at_most = and-right (p some.at) (is_up_to fs some.at k) some.is in
    below-some (λ i. q i && is_up_to fs i k) n some.at some.below (rw (pass, at_most) refl)

up_to_some-either :
    (fs : List Fact) (p q : ℕ → Bool) (n k : ℕ)
    → is_up_to_some fs (λ i. p i || q i) n k ≡ true → (is_up_to_some fs p n k || is_up_to_some fs q n k) ≡ true
up_to_some-either fs p q n k up =
    let some = some-below (λ i. (p i || q i) && is_up_to fs i k) n up in
    let pass = and-left (p some.at || q some.at) (is_up_to fs some.at k) some.is in
    let at_most = and-right (p some.at || q some.at) (is_up_to fs some.at k) some.is in
    or-cases (p some.at) (q some.at) ((is_up_to_some fs p n k || is_up_to_some fs q n k) ≡ true)
    (λ first. or-in_left (is_up_to_some fs p n k) (is_up_to_some fs q n k)
    (below-some (λ i. p i && is_up_to fs i k) n some.at some.below (rw (first, at_most) refl)))
    (λ second. or-in_right (is_up_to_some fs p n k) (is_up_to_some fs q n k)
    (below-some (λ i. q i && is_up_to fs i k) n some.at some.below (rw (second, at_most) refl)))
    pass

-- if a step is up to some that pass a test, so is each earlier one of its thread
up_to_some-earlier :
    (fs : List Fact) (p : ℕ → Bool) (n h k : ℕ)
    → h < k → (fact_at fs h).thread ≡ (fact_at fs k).thread
    → is_up_to_some fs p n k ≡ true → is_up_to_some fs p n h ≡ true
up_to_some-earlier fs p n h k low same up =
    let some = some-below (λ i. p i && is_up_to fs i k) n up in
    let pass = and-left (p some.at) (is_up_to fs some.at k) some.is in
    let at_most = and-right (p some.at) (is_up_to fs some.at k) some.is in
    let late = no-step_after fs some.at k at_most in
    let reported = (clock-tells fs some.at k late).0 at_most in
    let fewer = count-step (λ j. eqb (fact_at fs j).thread (fact_at fs k).thread) h k low
    (eq-eqb (fact_at fs h).thread (fact_at fs k).thread same) in
    let number : number_at fs h ≡ count_below (λ j. eqb (fact_at fs j).thread (fact_at fs k).thread) h =
    ap (λ (x : ℕ). count_below (λ j. eqb (fact_at fs j).thread x) h) same in
    let clock : clock_at fs some.at (fact_at fs h).thread ≡ clock_at fs some.at (fact_at fs k).thread =
    ap (λ (x : ℕ). clock_at fs some.at x) same in
    let earlier = (clock-tells fs some.at h (omega arith)).1 (omega arith) in
    below-some (λ i. p i && is_up_to fs i h) n some.at some.below (rw (pass, earlier) refl)

-- counts

pub count_up_to-union :
    (fs : List Fact) (p q : ℕ → Bool) (n t : ℕ)
    → count_up_to fs (λ i. p i || q i) n t ≡ max (count_up_to fs p n t) (count_up_to fs q n t)
unfolding count_up_to
count_up_to-union fs p q n t =
    union-count (λ k. eqb (fact_at fs k).thread t && is_up_to_some fs p n k)
    (λ k. eqb (fact_at fs k).thread t && is_up_to_some fs q n k)
    (λ k. eqb (fact_at fs k).thread t && is_up_to_some fs (λ i. p i || q i) n k)
    n
    (λ k below is.
    let own = and-left (eqb (fact_at fs k).thread t) (is_up_to_some fs p n k) is in
    let up = up_to_some-more fs p (λ i. p i || q i) n k (λ i low here. or-in_left (p i) (q i) here)
    (and-right (eqb (fact_at fs k).thread t) (is_up_to_some fs p n k) is) in
    rw (own, up) refl)
    (λ k below is.
    let own = and-left (eqb (fact_at fs k).thread t) (is_up_to_some fs q n k) is in
    let up = up_to_some-more fs q (λ i. p i || q i) n k (λ i low here. or-in_right (p i) (q i) here)
    (and-right (eqb (fact_at fs k).thread t) (is_up_to_some fs q n k) is) in
    rw (own, up) refl)
    (λ k below is.
    let own = and-left (eqb (fact_at fs k).thread t) (is_up_to_some fs (λ i. p i || q i) n k) is in
    let up = up_to_some-either fs p q n k
    (and-right (eqb (fact_at fs k).thread t) (is_up_to_some fs (λ i. p i || q i) n k) is) in
    rw (own, up) refl)
    (closed p q)
    (closed q p)
  where
    closed :
        (a b : ℕ → Bool) (h k : ℕ) → h < k → k < n
        → (eqb (fact_at fs k).thread t && is_up_to_some fs a n k) ≡ true
        → (eqb (fact_at fs h).thread t && is_up_to_some fs b n h) ≡ true
        → (eqb (fact_at fs h).thread t && is_up_to_some fs a n h) ≡ true
    closed a b h k low below here there =
        let own_k = and-left (eqb (fact_at fs k).thread t) (is_up_to_some fs a n k) here in
        let own_h = and-left (eqb (fact_at fs h).thread t) (is_up_to_some fs b n h) there in
        let same : (fact_at fs h).thread ≡ (fact_at fs k).thread =
        eqb-true (fact_at fs h).thread t own_h ∙ sym (eqb-true (fact_at fs k).thread t own_k) in
        let up = up_to_some-earlier fs a n h k low same
        (and-right (eqb (fact_at fs k).thread t) (is_up_to_some fs a n k) here) in
        rw (own_h, up) refl

pub count_up_to-same :
    (fs : List Fact) (p q : ℕ → Bool) (n t : ℕ)
    → ((i : ℕ) → i < n → p i ≡ true → q i ≡ true)
    → ((i : ℕ) → i < n → q i ≡ true → p i ≡ true)
    → count_up_to fs p n t ≡ count_up_to fs q n t
unfolding count_up_to
count_up_to-same fs p q n t to from =
    count-same (λ k. eqb (fact_at fs k).thread t && is_up_to_some fs p n k)
    (λ k. eqb (fact_at fs k).thread t && is_up_to_some fs q n k) n (along p q to) (along q p from)
  where
    along :
        (a b : ℕ → Bool) → ((i : ℕ) → i < n → a i ≡ true → b i ≡ true) → (k : ℕ) → k < n
        → (eqb (fact_at fs k).thread t && is_up_to_some fs a n k) ≡ true
        → (eqb (fact_at fs k).thread t && is_up_to_some fs b n k) ≡ true
    along a b more k below is =
        let own = and-left (eqb (fact_at fs k).thread t) (is_up_to_some fs a n k) is in
        let up = up_to_some-more fs a b n k more
        (and-right (eqb (fact_at fs k).thread t) (is_up_to_some fs a n k) is) in
        rw (own, up) refl

-- up to a step directly before one, or the step itself

before-up_to :
    (fs : List Fact) (n k : ℕ) → k < n → is_up_to fs n k ≡ true → is_up_to_some fs (λ i. before_at fs i n) n k ≡ true
before-up_to fs zero k below up = absurd (omega arith)
before-up_to fs (suc m) k below up =
    let apart : eqb k (suc m) ≡ false = ne_eqb k (suc m) (λ same. omega arith) in
    let ancestor : is_ancestor fs k (suc m) ≡ true = rw apart at up in
    let chain = and-right (ltb k (suc m)) (reaches fs (suc m) k (suc m)) ancestor in
    or-cases (before_at fs k (suc m)) (any_below (λ i. ltb k i && (reaches fs m k i && before_at fs i (suc m))) (suc m))
    (is_up_to_some fs (λ i. before_at fs i (suc m)) (suc m) k ≡ true)
    (λ direct.
    let own = up_to-own fs k in
    below-some (λ i. before_at fs i (suc m) && is_up_to fs i k) (suc m) k below (rw (direct, own) refl))
    (λ longer.
    let some = some-below (λ i. ltb k i && (reaches fs m k i && before_at fs i (suc m))) (suc m) longer in
    let bit = and-left (ltb k some.at) (reaches fs m k some.at && before_at fs some.at (suc m)) some.is in
    let rest = and-right (ltb k some.at) (reaches fs m k some.at && before_at fs some.at (suc m)) some.is in
    let part =
    bounded fs m k some.at (bit-lt k some.at bit)
    (and-left (reaches fs m k some.at) (before_at fs some.at (suc m)) rest) in
    let last = and-right (reaches fs m k some.at) (before_at fs some.at (suc m)) rest in
    let up_k = or-in_right (eqb k some.at) (is_ancestor fs k some.at) (rw (bit, part) refl) in
    below-some (λ i. before_at fs i (suc m) && is_up_to fs i k) (suc m) some.at some.below (rw (last, up_k) refl))
    chain

chain-more :
    (fs : List Fact) (n i k j : ℕ)
    → i < k → k < j → reaches fs n i k ≡ true → before_at fs k j ≡ true → reaches fs (suc n) i j ≡ true
chain-more fs n i k j low high chain last =
    or-in_right (before_at fs i j) (any_below (λ k. ltb i k && (reaches fs n i k && before_at fs k j)) j)
    (below-some (λ k. ltb i k && (reaches fs n i k && before_at fs k j)) j k high
    (let bit = lt-bit i k low in rw (bit, chain, last) refl))

up_to-before :
    (fs : List Fact) (n k : ℕ) → k < n → is_up_to_some fs (λ i. before_at fs i n) n k ≡ true → is_up_to fs n k ≡ true
up_to-before fs n k below up =
    let some = some-below (λ i. before_at fs i n && is_up_to fs i k) n up in
    let last = and-left (before_at fs some.at n) (is_up_to fs some.at k) some.is in
    let at_most = and-right (before_at fs some.at n) (is_up_to fs some.at k) some.is in
    let bit = lt-bit k n below in
    or-in_right (eqb k n) (is_ancestor fs k n)
    (elim (cases_eq k some.at) [
      | inl same ↦
          let chain = bounded fs 1 k n below (link fs 0 k n (rw (← same) at last)) in rw (bit, chain) refl
      | inr other ↦
          let apart : eqb k some.at ≡ false = ne_eqb k some.at other in
          let ancestor : is_ancestor fs k some.at ≡ true = rw apart at at_most in
          let earlier = bit-lt k some.at (and-left (ltb k some.at) (reaches fs some.at k some.at) ancestor) in
          let part = and-right (ltb k some.at) (reaches fs some.at k some.at) ancestor in
          let chain =
          bounded fs (suc some.at) k n below (chain-more fs some.at k some.at n earlier some.below part last) in
          rw (bit, chain) refl
    ])

-- the clock of a step: the join of those of the steps directly before it, and one more step of its thread
clock-next :
    (fs : List Fact) (n t : ℕ)
    → clock_at fs n t ≡ cond (eqb (fact_at fs n).thread t) 1 0 + count_up_to fs (λ i. before_at fs i n) n t
unfolding count_up_to
clock-next fs n t =
    let own = up_to-own fs n in
    let others =
    count-same (λ k. eqb (fact_at fs k).thread t && is_up_to fs n k)
    (λ k. eqb (fact_at fs k).thread t && is_up_to_some fs (λ i. before_at fs i n) n k) n
    (λ k below is.
    let thread = and-left (eqb (fact_at fs k).thread t) (is_up_to fs n k) is in
    let up = before-up_to fs n k below (and-right (eqb (fact_at fs k).thread t) (is_up_to fs n k) is) in
    rw (thread, up) refl)
    (λ k below is.
    let thread = and-left (eqb (fact_at fs k).thread t) (is_up_to_some fs (λ i. before_at fs i n) n k) is in
    let up = up_to-before fs n k below
    (and-right (eqb (fact_at fs k).thread t) (is_up_to_some fs (λ i. before_at fs i n) n k) is) in
    rw (thread, up) refl) in
    here (eqb (fact_at fs n).thread t) refl own others
  where
    here :
        (b : Bool) → eqb (fact_at fs n).thread t ≡ b → is_up_to fs n n ≡ true
        → count_below (λ k. eqb (fact_at fs k).thread t && is_up_to fs n k) n
        ≡ count_below (λ k. eqb (fact_at fs k).thread t && is_up_to_some fs (λ i. before_at fs i n) n k) n
        → clock_at fs n t
        ≡ cond (eqb (fact_at fs n).thread t) 1 0
        + count_below (λ k. eqb (fact_at fs k).thread t && is_up_to_some fs (λ i. before_at fs i n) n k) n
    here true is own others = rw (is, own) (omega arith)
    here false is own others = rw is (omega arith)

-- one more step

stays :
    (fs : List Fact) (p : ℕ → Bool) (n t : ℕ) → p n ≡ false → count_up_to fs p (suc n) t ≡ count_up_to fs p n t
unfolding count_up_to
stays fs p n t out =
    let last : is_up_to_some fs p n n ≡ false = no_up (is_or_not (is_up_to_some fs p n n)) in
    let same = count-same (λ k. eqb (fact_at fs k).thread t && is_up_to_some fs p (suc n) k)
    (λ k. eqb (fact_at fs k).thread t && is_up_to_some fs p n k) n
    (λ k below is. rw out at is) (λ k below is. rw out is) in
    here (eqb (fact_at fs n).thread t) refl last same
  where
    no_up : (is_up_to_some fs p n n ≡ true) ⊎ (is_up_to_some fs p n n ≡ false) → is_up_to_some fs p n n ≡ false
    no_up (inl up) =
        let some = some-below (λ i. p i && is_up_to fs i n) n up in
        let at_most = and-right (p some.at) (is_up_to fs some.at n) some.is in
        let isnt = up_to-later fs some.at n some.below in
        cc
    no_up (inr isnt) = isnt

    here :
        (b : Bool) → eqb (fact_at fs n).thread t ≡ b → is_up_to_some fs p n n ≡ false
        → count_below (λ k. eqb (fact_at fs k).thread t && is_up_to_some fs p (suc n) k) n
        ≡ count_below (λ k. eqb (fact_at fs k).thread t && is_up_to_some fs p n k) n
        → count_below (λ k. eqb (fact_at fs k).thread t && is_up_to_some fs p (suc n) k) (suc n)
        ≡ count_below (λ k. eqb (fact_at fs k).thread t && is_up_to_some fs p n k) n
    here true is last same = rw (is, out, last) (omega arith)
    here false is last same = rw is (omega arith)

-- of a step alone
alone : (fs : List Fact) (n t : ℕ) → count_up_to fs (λ i. eqb i n) (suc n) t ≡ clock_at fs n t
unfolding count_up_to
alone fs n t =
    count-same (λ k. eqb (fact_at fs k).thread t && is_up_to_some fs (λ i. eqb i n) (suc n) k)
    (λ k. eqb (fact_at fs k).thread t && is_up_to fs n k) (suc n)
    (λ k below is.
    let thread = and-left (eqb (fact_at fs k).thread t) (is_up_to_some fs (λ i. eqb i n) (suc n) k) is in
    let some = some-below (λ i. eqb i n && is_up_to fs i k) (suc n)
    (and-right (eqb (fact_at fs k).thread t) (is_up_to_some fs (λ i. eqb i n) (suc n) k) is) in
    let same = eqb-true some.at n (and-left (eqb some.at n) (is_up_to fs some.at k) some.is) in
    let up = and-right (eqb some.at n) (is_up_to fs some.at k) some.is in
    let up_n : is_up_to fs n k ≡ true = subst (λ (x : ℕ). is_up_to fs x k ≡ true) same up in
    rw (thread, up_n) refl)
    (λ k below is.
    let thread = and-left (eqb (fact_at fs k).thread t) (is_up_to fs n k) is in
    let up = and-right (eqb (fact_at fs k).thread t) (is_up_to fs n k) is in
    let own : eqb n n ≡ true = eq-eqb n n refl in
    let some = below-some (λ i. eqb i n && is_up_to fs i k) (suc n) n (omega arith) (rw (own, up) refl) in
    rw (thread, some) refl)

-- the joins

pub join-same :
    (fs : List Fact) (p q : ℕ → Bool) (n : ℕ) (clock : List ℕ)
    → ((i : ℕ) → i < n → p i ≡ true → q i ≡ true)
    → ((i : ℕ) → i < n → q i ≡ true → p i ≡ true)
    → IsJoinOf fs p n clock → IsJoinOf fs q n clock
join-same fs p q n clock to from join =
    record { counts = λ t few. join.counts t few ∙ count_up_to-same fs p q n t to from }

pub join-union :
    (fs : List Fact) (p q : ℕ → Bool) (n : ℕ) (a b c : List ℕ)
    → ((t : ℕ) → slice_index c t ≡ max (slice_index a t) (slice_index b t))
    → IsJoinOf fs p n a → IsJoinOf fs q n b → IsJoinOf fs (λ i. p i || q i) n c
join-union fs p q n a b c larger first second =
    record {
      counts =
          λ t few.
          let one = first.counts t few in
          let two = second.counts t few in
          let all = count_up_to-union fs p q n t in
          let here = larger t in
          rw (here, one, two) (sym all);
    }

pub join-stay :
    (fs : List Fact) (p : ℕ → Bool) (n : ℕ) (clock : List ℕ)
    → p n ≡ false → IsJoinOf fs p n clock → IsJoinOf fs p (suc n) clock
join-stay fs p n clock out join = record { counts = λ t few. join.counts t few ∙ sym (stays fs p n t out) }

pub join-add :
    (fs : List Fact) (p : ℕ → Bool) (n : ℕ) (a b c : List ℕ)
    → p n ≡ true
    → ((t : ℕ) → slice_index c t ≡ max (slice_index a t) (slice_index b t))
    → IsJoinOf fs p n a → IsClockOf fs n b → IsJoinOf fs p (suc n) c
join-add fs p n a b c own larger join clock =
    let others : ℕ → Bool = λ i. p i && not (eqb i n) in
    let here : eqb n n ≡ true = eq-eqb n n refl in
    let before : IsJoinOf fs others n a =
    join-same fs p others n a
    (λ i below is. let apart : eqb i n ≡ false = ne_eqb i n (λ same. omega arith) in rw (is, apart) refl)
    (λ i below is. and-left (p i) (not (eqb i n)) is) join in
    let kept = join-stay fs others n a (rw (own, here) refl) before in
    let alone_now : IsJoinOf fs (λ i. eqb i n)
    (suc n) b = record { counts = λ t few. clock.counts t few ∙ sym (alone fs n t) } in
    join-same fs (λ i. others i || eqb i n) p (suc n) c
    (λ i below is. or-cases (others i) (eqb i n) (p i ≡ true) (λ first. and-left (p i) (not (eqb i n)) first)
    (λ second. let same = eqb-true i n second in rw same own) is)
    (λ i below is. joined i is (is_or_not (eqb i n)))
    (join-union fs others (λ i. eqb i n) (suc n) a b c larger kept alone_now)
  where
    joined :
        (i : ℕ) → p i ≡ true → (eqb i n ≡ true) ⊎ (eqb i n ≡ false) → ((p i && not (eqb i n)) || eqb i n) ≡ true
    joined i is (inl same) = rw (is, same) refl
    joined i is (inr other) = rw (is, other) refl

pub join-none :
    (fs : List Fact) (p : ℕ → Bool) (n : ℕ) (clock : List ℕ)
    → ((i : ℕ) → i < n → p i ≡ false) → ((t : ℕ) → slice_index clock t ≡ 0) → IsJoinOf fs p n clock
join-none fs p n clock none zeros = record { counts = λ t few. zeros t ∙ sym (empty n t none) }
  where
    empty : (n t : ℕ) → ((i : ℕ) → i < n → p i ≡ false) → count_up_to fs p n t ≡ 0
    empty zero t none = unfold count_up_to in refl
    empty (suc n) t none = stays fs p n t (none n (omega arith)) ∙ empty n t (λ i below. none i (omega arith))

-- the join of the clocks directly before a step, with one more step of its thread, is the step's clock
pub clock-of_join :
    (fs : List Fact) (n : ℕ) (before clock : List ℕ)
    → ((t : ℕ) → t < THREADS → slice_index clock t ≡ cond (eqb (fact_at fs n).thread t) 1 0 + slice_index before t)
    → IsJoinOf fs (λ i. before_at fs i n) n before → IsClockOf fs n clock
clock-of_join fs n before clock ticked join =
    record {
      counts =
          λ t few.
          let more = ticked t few in
          let joined = join.counts t few in
          let next = clock-next fs n t in
          rw (more, joined) (sym next);
    }

-- no clock counts more steps than there are
count-few : (p : ℕ → Bool) (n : ℕ) → count_below p n ≤ n
count-few p zero = omega arith
count-few p (suc n) = let rest = count-few p n in one (p n) rest
  where
    one : (b : Bool) → count_below p n ≤ n → cond b 1 0 + count_below p n ≤ suc n
    one true rest = omega arith
    one false rest = omega arith

count_up_to-few : (fs : List Fact) (p : ℕ → Bool) (n t : ℕ) → count_up_to fs p n t ≤ n
unfolding count_up_to
count_up_to-few fs p n t = count-few (λ k. eqb (fact_at fs k).thread t && is_up_to_some fs p n k) n

pub join-few :
    (fs : List Fact) (p : ℕ → Bool) (n : ℕ) (clock : List ℕ) (t : ℕ) → t < THREADS → IsJoinOf fs p n clock
    → slice_index clock t ≤ n
join-few fs p n clock t few join =
    let is = join.counts t few in
    let most = count_up_to-few fs p n t in
    omega arith

-- one more step of a thread
pub ticked-counts :
    (before clock : List ℕ) (t : ℕ)
    → length before ≡ THREADS → t < THREADS → clock ≡ set before t (slice_index before t + 1)
    → (u : ℕ) → u < THREADS → slice_index clock u ≡ cond (eqb t u) 1 0 + slice_index before u
ticked-counts before clock t long few ticked u low =
    elim (cases_eq t u) [
      | inl same ↦
          let own : eqb t u ≡ true = eq-eqb t u same in
          let here = get_or-set_same before t (slice_index before t + 1) 0 (omega arith) in
          rw (own, ticked, ← same, here) (omega arith)
      | inr other ↦
          let apart : eqb t u ≡ false = ne_eqb t u other in
          let away : u ≢ t = λ same. other (sym same) in
          let there = get_or-set_other before t u (slice_index before t + 1) 0 away in
          rw (apart, ticked, there) (omega arith)
    ]
