-- A queue of threads stays one if a thread is added or the first leaves.
use Rattle.std.proofs.Common.{◌≡◌, ℕ, ◌<◌, List, [], ◌∷◌, ◌++◌, Option, arith, subst, sym, ap}
use Rattle.std.proofs.lemmas.Bool.Decides.{nat_tests}
use Rattle.guest_call.proofs.Counting.{places-nil, places-cons, places-push}
use Rattle.sync_objects.specs.Queue.{popped, AreThreads}

pub nobody_are_threads : AreThreads []
nobody_are_threads t le = places-nil t

pub pushed_are_threads : (u : ℕ) (q : List ℕ) → u < 32 → AreThreads q → AreThreads (q ++ u ∷ [])
pushed_are_threads u q lt are t le = let before = are t le in grind (arith, nat_tests, places-push t q u, before)

rest_are_threads : (q : List ℕ) → AreThreads q → AreThreads (popped q).1
rest_are_threads [] are t le = places-nil t
rest_are_threads (u ∷ q) are t le = omega (arith, are t le, places-cons t u q)

pub popped_are_threads :
    (first : Option ℕ) (q rest : List ℕ) → (first, rest) ≡ popped q → AreThreads q
    → AreThreads rest
popped_are_threads first q rest is are =
    subst AreThreads (sym (ap (λ (r : Option ℕ × List ℕ). r.1) is)) (rest_are_threads q are)
