-- A queue has room: threads below n, each at most once in it, are at most n.
use Rattle.std.proofs.Common.{◌≡◌, ℕ, zero, suc, ◌+◌, ◌<◌, ◌≤◌, ◌==◌, Bool, true, false, List, [], ◌∷◌, ◌++◌, length, nat_lt, arith, refl, ltb-false}
use Rattle.std.proofs.lemmas.Bool.Decides.{nat_tests}
use Rattle.std.proofs.lemmas.List.{length_push}
use Rattle.guest_call.specs.Queues.{places}
use Rattle.guest_call.proofs.Counting.{tally, places-nil, places-cons, places-push}

-- how many places of a queue the threads below n take
total : ℕ → List ℕ → ℕ
total zero q = 0
total (suc n) q = places n q + total n q

total-le : (n : ℕ) (q : List ℕ) → ((t : ℕ) → places t q ≤ 1) → total n q ≤ n
unfolding total
total-le zero q once = omega arith
total-le (suc n) q once = omega (arith, once n, total-le n q once)

total-nil : (n : ℕ) → total n [] ≡ 0
unfolding total
total-nil zero = refl
total-nil (suc n) = omega (arith, places-nil n, total-nil n)

tally-suc : (u n : ℕ) → tally (nat_lt u (suc n)) ≡ tally (u == n) + tally (nat_lt u n)
tally-suc u n = grind (arith, nat_tests)

tally-zero : (u : ℕ) → tally (nat_lt u 0) ≡ 0
tally-zero u = grind (arith, nat_tests)

total-cons : (n u : ℕ) (q : List ℕ) → total n (u ∷ q) ≡ tally (nat_lt u n) + total n q
unfolding total
total-cons zero u q = omega (arith, tally-zero u)
total-cons (suc n) u q = omega (arith, places-cons n u q, total-cons n u q, tally-suc u n)

-- the first thread in a queue of threads below n is below n
first-below : (n u : ℕ) (q : List ℕ) → ((t : ℕ) → n ≤ t → places t (u ∷ q) ≡ 0) → tally (nat_lt u n) ≡ 1
first-below n u q low = by_order (nat_lt u n) refl
  where
    by_order : (b : Bool) → nat_lt u n ≡ b → tally b ≡ 1
    by_order true is = refl
    by_order false is =
        absurd (let itself : tally (u == u) ≡ 1 = grind (arith, nat_tests) in
        omega (arith, low u (ltb-false u n is), places-cons u u q, itself))

length-total : (n : ℕ) (q : List ℕ) → ((t : ℕ) → n ≤ t → places t q ≡ 0) → length q ≡ total n q
length-total n [] low = omega (arith, total-nil n)
length-total n (u ∷ q) low =
    omega (
      arith,
      total-cons n u q,
      first-below n u q low,
      length-total n q
          (λ t le. omega (arith, low t le, places-cons t u q)),
    )

-- threads below n, each at most once in a queue, are at most n
pub length-few : (n : ℕ) (q : List ℕ) → ((t : ℕ) → n ≤ t → places t q ≡ 0) → ((t : ℕ) → places t q ≤ 1) → length q ≤ n
length-few n q low once = omega (arith, length-total n q low, total-le n q once)

-- if a thread below n isn't in the queue, there is room for it
pub length-room :
    (n t : ℕ) (q : List ℕ) → t < n → ((u : ℕ) → n ≤ u → places u q ≡ 0) → ((u : ℕ) → places u q ≤ 1) → places t q ≡ 0
    → length q < n
length-room n t q lt low once free = omega (arith, length-few n (q ++ t ∷ []) low_too once_too, length_push q t)
  where
    differs : (u : ℕ) → n ≤ u → tally (t == u) ≡ 0
    differs u le = grind (arith, nat_tests)

    low_too : (u : ℕ) → n ≤ u → places u (q ++ t ∷ []) ≡ 0
    low_too u le = omega (arith, places-push u q t, low u le, differs u le)

    once_by : (u : ℕ) (b : Bool) → (t == u) ≡ b → places u q + tally b ≤ 1
    once_by u true is =
        let same : t ≡ u = grind (arith, nat_tests) in
        let there : places u q ≡ 0 = rw (← same) free in omega (arith, there)
    once_by u false is = omega (arith, once u)

    once_too : (u : ℕ) → places u (q ++ t ∷ []) ≤ 1
    once_too u = omega (arith, places-push u q t, once_by u (t == u) refl)
