-- How many threads wait: in one queue, in a table, and after one object of it has changed.
use Rattle.std.proofs.Common.{◌≡◌, ℕ, ◌+◌, ◌<◌, ◌≤◌, ◌==◌, ◌≢◌, Bool, cond, List, [], ◌∷◌, ◌++◌, length, replicate, slice_index_or, slice_set, Option, arith, refl}
use Rattle.std.proofs.lemmas.List.Sums.{sum_by-cons, sum_by-append, sum_by_push, sum_by-set, get_or-le-sum_by}
use Rattle.std.proofs.lemmas.List.Folds.{sum_by-replicate}
use Rattle.guest_call.specs.Effect.{Fate, Returns, Blocks, Ends, Exits, waiting}
use Rattle.guest_call.specs.Queues.{places, waits, entering}

-- a test as a count
abbrev pub tally : Bool → ℕ
tally b = cond b 1 0

pub places-nil : (t : ℕ) → places t [] ≡ 0
unfolding places
places-nil t = refl

pub places-cons : (t u : ℕ) (q : List ℕ) → places t (u ∷ q) ≡ tally (u == t) + places t q
unfolding places
places-cons t u q = sum_by-cons (λ (x : ℕ). cond (x == t) 1 0) u q

pub places-append : (t : ℕ) (q r : List ℕ) → places t (q ++ r) ≡ places t q + places t r
unfolding places
places-append t q r = sum_by-append (λ (x : ℕ). cond (x == t) 1 0) q r

pub places-push : (t : ℕ) (q : List ℕ) (u : ℕ) → places t (q ++ u ∷ []) ≡ places t q + tally (u == t)
unfolding places
places-push t q u = sum_by_push (λ (x : ℕ). cond (x == t) 1 0) q u

pub entering-returns : (t a : ℕ) (b : Option ℕ) (u : ℕ) → entering t (Returns a b) u ≡ 0
unfolding entering
entering-returns t a b u = grind arith

pub entering-ends : (t v u : ℕ) → entering t (Ends v) u ≡ 0
unfolding entering
entering-ends t v u = grind arith

pub entering-exits : (t code u : ℕ) → entering t (Exits code) u ≡ 0
unfolding entering
entering-exits t code u = grind arith

pub entering-blocks : (t u : ℕ) → entering t Blocks u ≡ tally (t == u)
unfolding entering
entering-blocks t u = refl

-- no thread but the caller enters a queue
pub entering-other : (t : ℕ) (f : Fate) (u : ℕ) → u ≢ t → entering t f u ≡ 0
unfolding entering
entering-other t f u other = grind arith

pub waiting-le : (f : Fate) → waiting f ≤ 1
waiting-le (Returns a b) = omega arith
waiting-le Blocks = omega arith
waiting-le (Ends v) = omega arith
waiting-le (Exits code) = omega arith

-- and the caller enters at most one
pub entering-le : (t : ℕ) (f : Fate) (u : ℕ) → entering t f u ≤ 1
unfolding entering
entering-le t f u = grind (arith, waiting-le f)

pub waits-push :
    {C : Type 0} (queue : C → List ℕ) (cells : List C) (c : C) (t : ℕ)
    → waits queue (cells ++ c ∷ []) t ≡ waits queue cells t + places t (queue c)
unfolding waits
waits-push queue cells c t = sum_by_push (λ x. places t (queue x)) cells c

pub waits-set : {C : Type 0} (queue : C → List ℕ) (cells : List C) (i : ℕ) (c d : C) (t : ℕ) → i < length cells →
    waits queue (slice_set cells i c) t + places t (queue (slice_index_or cells i d))
    ≡ waits queue cells t + places t (queue c)
unfolding waits
waits-set queue cells i c d t lt = sum_by-set (λ x. places t (queue x)) cells i c d lt

pub places-le-waits :
    {C : Type 0} (queue : C → List ℕ) (cells : List C) (i : ℕ) (d : C) (t : ℕ) → i < length cells
    → places t (queue (slice_index_or cells i d)) ≤ waits queue cells t
unfolding waits
places-le-waits queue cells i d t lt = get_or-le-sum_by (λ x. places t (queue x)) cells i d lt

-- in a table of copies of one object whose queue is empty, no thread waits
pub waits-replicate :
    {C : Type 0} (queue : C → List ℕ) (n : ℕ) (c : C) (t : ℕ) → queue c ≡ [] → waits queue (replicate n c) t ≡ 0
unfolding waits places
waits-replicate queue n c t empty = rw (sum_by-replicate (λ x. places t (queue x)) n c) (rw empty (omega arith))
