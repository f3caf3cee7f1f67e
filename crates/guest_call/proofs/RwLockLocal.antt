-- A row on a reader-writer lock reads and changes nothing but the reader-writer lock.
use Rattle.std.proofs.Common.{◌≡◌, ℕ, ◌<◌, Bool, true, false, List, [], ◌∷◌, nat_lt, slice_index_or, slice_set, if◌then◌else◌, arith, refl, sym, ap, subst, ltb-true}
use Rattle.std.proofs.lemmas.List.{get_or-set_same, get_or-set_other}
use Rattle.guest_call.specs.declared.Object.{Object}
use Rattle.guest_call.specs.declared.Object.TheVariants.{Output, ThreadTable, Mutex as MutexOf, Semaphore as SemaphoreOf, Barrier as BarrierOf, Condition as ConditionOf, RwLock as RwLockOf}
use Rattle.guest_call.specs.Answers.{answer_einval}
use Rattle.guest_call.specs.Effect.{Effect, answers}
use Rattle.guest_call.specs.RwLocks.{RwLock, unheld}
use Rattle.guest_call.specs.Objects.{Objects, on_rwlock, one_of, IsKept}
use Rattle.guest_call.specs.Locality.{RwLockPart, part_of, is_among, IsLocalBy}
use Rattle.guest_call.proofs.Locality.{nothing_local, seen_local, among_one}

-- a row on reader-writer lock i, if there is one
abbrev pub rwlock_done : (RwLock → Effect × RwLock) → ℕ → Objects → Effect × Objects
rwlock_done row i o =
    let r = row (slice_index_or o.rwlocks i unheld) in
    (r.0, record o { rwlocks = slice_set o.rwlocks i r.1 })

-- a row on a reader-writer lock that exists
pub rwlock_local :
    (row : RwLock → Effect × RwLock) (i : ℕ) (o : Objects) → i < 64 → IsKept o
    → IsLocalBy (rwlock_done row i) (λ x. RwLockOf i ∷ []) o
rwlock_local row i o lt kept =
    seen_local look (λ c. (row c).0) (λ c p. RwLockPart (row c).1) (RwLockOf i ∷ [])
    (rwlock_done row i) o kept (record {
      looks = λ other alike. let e = alike (RwLockOf i) (grind arith) in cc;
      does = λ x. refl;
      writes =
          λ x kept_x p among. subst
          (λ (q : Object). part_of (rwlock_done row i x).1 q ≡ RwLockPart (row (look x)).1)
          (sym (among_one p (RwLockOf i) among)) (ap RwLockPart (at_i x kept_x));
      leaves = leaves_by;
    })
  where
    look : Objects → RwLock
    look x = slice_index_or x.rwlocks i unheld

    at_i :
        (x : Objects) → IsKept x
        → slice_index_or (rwlock_done row i x).1.rwlocks i unheld
        ≡ (row (slice_index_or x.rwlocks i unheld)).1
    at_i x kept_x =
        get_or-set_same x.rwlocks i (row (slice_index_or x.rwlocks i unheld)).1 unheld
        (omega (arith, kept_x.all_rwlocks))

    leaves_by :
        (p : Object) → is_among p (RwLockOf i ∷ []) ≡ false → part_of (rwlock_done row i o).1 p ≡ part_of o p
    leaves_by (RwLockOf k) apart =
        ap RwLockPart
        (get_or-set_other o.rwlocks i k (row (slice_index_or o.rwlocks i unheld)).1 unheld (grind arith))
    leaves_by Output apart = refl
    leaves_by ThreadTable apart = refl
    leaves_by (MutexOf k) apart = refl
    leaves_by (SemaphoreOf k) apart = refl
    leaves_by (BarrierOf k) apart = refl
    leaves_by (ConditionOf k) apart = refl

pub on_rwlock_local :
    (row : RwLock → Effect × RwLock) (i : ℕ) (o : Objects) → IsKept o
    → IsLocalBy (λ x. on_rwlock row x i) (λ x. one_of (nat_lt i 64) (RwLockOf i)) o
on_rwlock_local row i o kept = by_range (nat_lt i 64) refl
  where
    by_range :
        (b : Bool) → nat_lt i 64 ≡ b
        → IsLocalBy
        (λ (x : Objects). let r : Effect
        × List RwLock =
        (if b then
        (let r = row (slice_index_or x.rwlocks i unheld) in (r.0, slice_set x.rwlocks i r.1))
        else (answers answer_einval, x.rwlocks)) in (r.0, record x { rwlocks = r.1 }))
        (λ x. one_of b (RwLockOf i)) o
    by_range true is = rwlock_local row i o (ltb-true i 64 is) kept
    by_range false is = nothing_local (answers answer_einval) [] o
