-- A row on a mutex reads and changes nothing but the mutex.
use Rattle.std.proofs.Common.{◌≡◌, ℕ, ◌<◌, Bool, true, false, List, [], ◌∷◌, nat_lt, slice_index_or, slice_set, if◌then◌else◌, arith, refl, sym, ap, subst, ltb-true}
use Rattle.std.proofs.lemmas.List.{get_or-set_same, get_or-set_other}
use Rattle.guest_call.specs.declared.Object.{Object}
use Rattle.guest_call.specs.declared.Object.TheVariants.{Output, ThreadTable, Mutex as MutexOf, Semaphore as SemaphoreOf, Barrier as BarrierOf, Condition as ConditionOf, RwLock as RwLockOf}
use Rattle.guest_call.specs.Answers.{answer_einval}
use Rattle.guest_call.specs.Effect.{Effect, answers}
use Rattle.guest_call.specs.Mutexes.{Mutex, unlocked}
use Rattle.guest_call.specs.Objects.{Objects, on_mutex, one_of, IsKept}
use Rattle.guest_call.specs.Locality.{MutexPart, part_of, is_among, IsLocalBy}
use Rattle.guest_call.proofs.Locality.{nothing_local, seen_local, among_one}

-- a row on mutex i, if there is one
abbrev pub mutex_done : (Mutex → Effect × Mutex) → ℕ → Objects → Effect × Objects
mutex_done row i o =
    let r = row (slice_index_or o.mutexes i unlocked) in (r.0, record o { mutexes = slice_set o.mutexes i r.1 })

-- a row on a mutex that exists
pub mutex_local :
    (row : Mutex → Effect × Mutex) (i : ℕ) (o : Objects) → i < 64 → IsKept o
    → IsLocalBy (mutex_done row i) (λ x. MutexOf i ∷ []) o
mutex_local row i o lt kept =
    seen_local look (λ c. (row c).0) (λ c p. MutexPart (row c).1) (MutexOf i ∷ []) (mutex_done row i) o kept (record {
      looks = λ other alike. let e = alike (MutexOf i) (grind arith) in cc;
      does = λ x. refl;
      writes =
          λ x kept_x p among. subst (λ (q : Object). part_of (mutex_done row i x).1 q ≡ MutexPart (row (look x)).1)
          (sym (among_one p (MutexOf i) among)) (ap MutexPart (at_i x kept_x));
      leaves = leaves_by;
    })
  where
    look : Objects → Mutex
    look x = slice_index_or x.mutexes i unlocked

    at_i :
        (x : Objects) → IsKept x
        → slice_index_or (mutex_done row i x).1.mutexes i unlocked ≡ (row (slice_index_or x.mutexes i unlocked)).1
    at_i x kept_x =
        get_or-set_same x.mutexes i (row (slice_index_or x.mutexes i unlocked)).1 unlocked
        (omega (arith, kept_x.all_mutexes))

    leaves_by : (p : Object) → is_among p (MutexOf i ∷ []) ≡ false → part_of (mutex_done row i o).1 p ≡ part_of o p
    leaves_by (MutexOf k) apart =
        ap MutexPart
        (get_or-set_other o.mutexes i k (row (slice_index_or o.mutexes i unlocked)).1 unlocked (grind arith))
    leaves_by Output apart = refl
    leaves_by ThreadTable apart = refl
    leaves_by (SemaphoreOf k) apart = refl
    leaves_by (BarrierOf k) apart = refl
    leaves_by (ConditionOf k) apart = refl
    leaves_by (RwLockOf k) apart = refl

pub on_mutex_local :
    (row : Mutex → Effect × Mutex) (i : ℕ) (o : Objects) → IsKept o
    → IsLocalBy (λ x. on_mutex row x i) (λ x. one_of (nat_lt i 64) (MutexOf i)) o
on_mutex_local row i o kept = by_range (nat_lt i 64) refl
  where
    by_range :
        (b : Bool) → nat_lt i 64 ≡ b
        → IsLocalBy
        (λ (x : Objects). let r : Effect
        × List Mutex =
        (if b then (let r = row (slice_index_or x.mutexes i unlocked) in (r.0, slice_set x.mutexes i r.1))
        else (answers answer_einval, x.mutexes)) in (r.0, record x { mutexes = r.1 }))
        (λ x. one_of b (MutexOf i)) o
    by_range true is = mutex_local row i o (ltb-true i 64 is) kept
    by_range false is = nothing_local (answers answer_einval) [] o
