-- Without a history, the choice and the schedule of one worker are those of a run with no earlier run.
use Rattle.std.proofs.Common.{◌≡◌, ◌<◌, ◌+◌, ℕ, zero, suc, Bool, true, false, not, cond, ◌&&◌, eqb, ltb, List, [], ◌∷◌, length, map, filter, Option, Some, None, refl, ap, sym, ◌∙◌, arith}
use Rattle.std.proofs.lemmas.Bool.Decides.{nat_tests}
use Rattle.std.specs.List.{range_with_len, position_or_len}
use Rattle.machine_spec.specs.declared.states.End.{End}
use Rattle.machine_spec.specs.Machine.{Hart, Machine, hart_in, hart_of, is_ready}
use Rattle.machine_spec.specs.Step.{step}
use Rattle.machine_spec.specs.Setup.{Setup, first}
use Rattle.machine_spec.specs.Choice.{least, ready_numbers, is_ready_at, choice, chosen_first, alone_from, alone}
use Rattle.round_spec.specs.Rounds.{none_in_flight, is_free_in}
use Rattle.round_spec.specs.Due.{is_due}
use Rattle.round_spec.specs.Choice.{free_threads, least_by, first_of, best, is_any_in_flight, eligible, choice_by}
use Rattle.round_spec.specs.Alone.{guided_from, one_worker}
use Rattle.round_spec.proofs.Happening.{none_in_flight-none}

filter-all : {A : Type 0} (xs : List A) → filter (λ x. true) xs ≡ xs
filter-all [] = refl
filter-all (x ∷ xs) = ap (λ ys. x ∷ ys) (filter-all xs)

filter-same : {A : Type 0} (p q : A → Bool) (xs : List A) → ((x : A) → p x ≡ q x) → filter p xs ≡ filter q xs
filter-same p q [] same = refl
filter-same p q (x ∷ xs) same = rw (same x, filter-same p q xs same) refl

filter-both : {A : Type 0} (p q : A → Bool) (xs : List A) → filter p (filter q xs) ≡ filter (λ x. q x && p x) xs
filter-both p q [] = refl
filter-both p q (x ∷ xs) = both (q x) (filter-both p q xs)
  where
    both :
        (b : Bool) → filter p (filter q xs) ≡ filter (λ x. q x && p x) xs
        → filter p (cond b (x ∷ filter q xs) (filter q xs))
        ≡ cond (b && p x) (x ∷ filter (λ x. q x && p x) xs) (filter (λ x. q x && p x) xs)
    both true rest = ap (λ ys. cond (p x) (x ∷ ys) ys) rest
    both false rest = rest

least-zeros : (xs : List ℕ) → least (map (λ (t : ℕ). 0) xs) ≡ 0
least-zeros [] = refl
least-zeros (x ∷ []) = refl
least-zeros (x ∷ y ∷ xs) = let rest = least-zeros (y ∷ xs) in omega arith

-- if the measure is the same everywhere, all are kept
least_by-zeros : (xs : List ℕ) → least_by (λ t. 0) xs ≡ xs
unfolding least_by
least_by-zeros xs = rw (least-zeros xs) (filter-all xs)

eligible-self : (xs : List ℕ) (b : Bool) → eligible xs xs b ≡ xs
eligible-self [] true = refl
eligible-self [] false = refl
eligible-self (x ∷ xs) b = refl

-- the numbers of the ready threads, by thread and by hart
numbers-range :
    (f : ℕ → Hart) (k : ℕ) (hs : List Hart)
    → ((i : ℕ) → i < length hs → f (k + i) ≡ hart_in hs i)
    → map (λ t. (f t).number) (filter (λ t. is_ready (f t).status) (range_with_len k (length hs))) ≡ ready_numbers hs
numbers-range f k [] at = refl
numbers-range f k (h ∷ hs) at =
    let here : f k ≡ h = let same : k + 0 ≡ k = omega arith in ap f (sym same) ∙ at 0 (omega arith) in
    let ts : List ℕ = filter (λ t. is_ready (f t).status) (range_with_len (k + 1) (length hs)) in
    ap (λ b. map (λ t. (f t).number) (cond b (k ∷ ts) ts)) (ap (λ (x : Hart). is_ready x.status) here)
    ∙ more (is_ready h.status) ts (filter (λ (x : Hart). is_ready x.status) hs) here
    (numbers-range f (k + 1) hs
    (λ i below. let next : k + 1 + i ≡ k + suc i = omega arith in ap f next ∙ at (suc i) (omega arith)))
  where
    more :
        (b : Bool) (ts : List ℕ) (rs : List Hart)
        → f k ≡ h
        → map (λ t. (f t).number) ts ≡ map (λ (x : Hart). x.number) rs
        → map (λ t. (f t).number) (cond b (k ∷ ts) ts) ≡ map (λ (x : Hart). x.number) (cond b (h ∷ rs) rs)
    more true ts rs here rest =
        ap (λ (x : Hart). x.number ∷ map (λ t. (f t).number) ts) here ∙ ap (λ (ns : List ℕ). h.number ∷ ns) rest
    more false ts rs here rest = rest

-- the first thread that passes a test, by thread and by hart
first-range :
    (f : ℕ → Hart) (test : Hart → Bool) (k : ℕ) (hs : List Hart)
    → ((i : ℕ) → i < length hs → f (k + i) ≡ hart_in hs i)
    → first_of (filter (λ t. test (f t)) (range_with_len k (length hs)))
    ≡ cond (ltb (position_or_len test hs) (length hs)) (Some (k + position_or_len test hs)) None
first-range f test k [] at = refl
first-range f test k (h ∷ hs) at =
    let here : f k ≡ h = let same : k + 0 ≡ k = omega arith in ap f (sym same) ∙ at 0 (omega arith) in
    let ts : List ℕ = filter (λ t. test (f t)) (range_with_len (k + 1) (length hs)) in
    ap (λ b. first_of (cond b (k ∷ ts) ts)) (ap test here)
    ∙ more (test h) ts (position_or_len test hs) (length hs)
    (first-range f test (k + 1) hs
    (λ i below. let next : k + 1 + i ≡ k + suc i = omega arith in ap f next ∙ at (suc i) (omega arith)))
  where
    more :
        (b : Bool) (ts : List ℕ) (p n : ℕ)
        → first_of ts ≡ cond (ltb p n) (Some (k + 1 + p)) None
        → first_of (cond b (k ∷ ts) ts)
        ≡ cond (ltb (cond (not b) (1 + p) 0) (suc n)) (Some (k + cond (not b) (1 + p) 0)) None
    more true ts p n rest =
        let none : k + 0 ≡ k = omega arith in
        let first : ltb 0 (suc n) ≡ true = grind (arith, nat_tests) in rw (none, first) refl
    more false ts p n rest =
        let sum : k + 1 + p ≡ k + (1 + p) = omega arith in
        let less : ltb (1 + p) (suc n) ≡ ltb p n = grind (arith, nat_tests) in
        rest ∙ ap (λ i. cond (ltb p n) (Some i) None) sum ∙ ap (λ b. cond b (Some (k + (1 + p))) None) (sym less)

zero-add : (n : ℕ) → 0 + n ≡ n
zero-add n = omega arith

-- with none in flight, the free threads are the ready ones
free_threads-none_in_flight :
    (m : Machine)
    → free_threads m none_in_flight ≡ filter (λ t. is_ready (hart_of m t).status) (range_with_len 0 (length m.harts))
unfolding free_threads
free_threads-none_in_flight m =
    filter-same (is_free_in m none_in_flight) (λ t. is_ready (hart_of m t).status) (range_with_len 0 (length m.harts))
    (λ t. ap (λ b. is_ready (hart_of m t).status && not b) (none_in_flight-none t)
    ∙ and-true (is_ready (hart_of m t).status))
  where
    and-true : (b : Bool) → (b && true) ≡ b
    and-true true = refl
    and-true false = refl

-- the first of the ready threads that have made the fewest steps
fewest :
    (m : Machine)
    → first_of (least_by (λ t. (hart_of m t).number)
    (filter (λ t. is_ready (hart_of m t).status) (range_with_len 0 (length m.harts)))) ≡ choice m
unfolding least_by choice
fewest m =
    let ready : List ℕ = filter (λ t. is_ready (hart_of m t).status) (range_with_len 0 (length m.harts)) in
    let at : (i : ℕ) → i < length m.harts → hart_of m (0 + i) ≡ hart_in m.harts i =
    λ i below. ap (hart_of m) (zero-add i) in
    ap (λ ns. first_of (filter (λ t. eqb (hart_of m t).number (least ns)) ready))
    (numbers-range (hart_of m) 0 m.harts at)
    ∙ ap first_of
    (filter-both (λ t. eqb (hart_of m t).number (least (ready_numbers m.harts))) (λ t. is_ready (hart_of m t).status)
    (range_with_len 0 (length m.harts)))
    ∙ first-range (hart_of m) (is_ready_at (least (ready_numbers m.harts))) 0 m.harts at
    ∙ ap (λ i. cond (ltb (position_or_len (is_ready_at (least (ready_numbers m.harts))) m.harts) (length m.harts))
    (Some i) None)
    (zero-add (position_or_len (is_ready_at (least (ready_numbers m.harts))) m.harts))

-- without a history, all are due, and none has a place
pub choice_by-nothing : (m : Machine) → choice_by None m none_in_flight ≡ choice m
unfolding choice_by best is_due
choice_by-nothing m =
    let free : List ℕ = free_threads m none_in_flight in
    ap (λ due. first_of (least_by (λ t. (hart_of m t).number)
    (least_by (λ t. 0) (eligible due free (is_any_in_flight none_in_flight))))) (filter-all free)
    ∙ ap (λ ts. first_of (least_by (λ t. (hart_of m t).number) (least_by (λ t. 0) ts)))
    (eligible-self free (is_any_in_flight none_in_flight))
    ∙ ap (λ ts. first_of (least_by (λ t. (hart_of m t).number) ts)) (least_by-zeros free)
    ∙ ap (λ ts. first_of (least_by (λ t. (hart_of m t).number) ts)) (free_threads-none_in_flight m)
    ∙ fewest m

same-rest :
    (e : Option End) (c : Option ℕ) (f g : ℕ → List ℕ) → ((t : ℕ) → f t ≡ g t)
    → chosen_first e c f ≡ chosen_first e c g
same-rest (Some e) c f g same = refl
same-rest None None f g same = refl
same-rest None (Some t) f g same = ap (λ ts. t ∷ ts) (same t)

pub guided_from-nothing : (n : ℕ) (m : Machine) → guided_from None n m ≡ alone_from n m
guided_from-nothing zero m = refl
guided_from-nothing (suc n) m =
    ap (λ c. chosen_first m.ending c (λ t. guided_from None n (step m t))) (choice_by-nothing m)
    ∙ same-rest m.ending (choice m) (λ t. guided_from None n (step m t)) (λ t. alone_from n (step m t))
    (λ t. guided_from-nothing n (step m t))

pub one_worker-nothing : (s : Setup) → one_worker s None ≡ alone s
one_worker-nothing s = guided_from-nothing s.limit (first s)
