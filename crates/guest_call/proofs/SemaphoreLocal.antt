-- A row on a semaphore reads and changes nothing but the semaphore.
use Rattle.std.proofs.Common.{◌≡◌, ℕ, ◌<◌, Bool, true, false, List, [], ◌∷◌, nat_lt, slice_index_or, slice_set, if◌then◌else◌, arith, refl, sym, ap, subst, ltb-true}
use Rattle.std.proofs.lemmas.List.{get_or-set_same, get_or-set_other}
use Rattle.guest_call.specs.declared.Object.{Object}
use Rattle.guest_call.specs.declared.Object.TheVariants.{Output, ThreadTable, Mutex as MutexOf, Semaphore as SemaphoreOf, Barrier as BarrierOf, Condition as ConditionOf, RwLock as RwLockOf}
use Rattle.guest_call.specs.Answers.{answer_einval}
use Rattle.guest_call.specs.Effect.{Effect, answers}
use Rattle.guest_call.specs.Semaphores.{Semaphore, unposted}
use Rattle.guest_call.specs.Objects.{Objects, on_semaphore, one_of, IsKept}
use Rattle.guest_call.specs.Locality.{SemaphorePart, part_of, is_among, IsLocalBy}
use Rattle.guest_call.proofs.Locality.{nothing_local, seen_local, among_one}

-- a row on semaphore i, if there is one
abbrev pub semaphore_done : (Semaphore → Effect × Semaphore) → ℕ → Objects → Effect × Objects
semaphore_done row i o =
    let r = row (slice_index_or o.semaphores i unposted) in
    (r.0, record o { semaphores = slice_set o.semaphores i r.1 })

-- a row on a semaphore that exists
pub semaphore_local :
    (row : Semaphore → Effect × Semaphore) (i : ℕ) (o : Objects) → i < 64 → IsKept o
    → IsLocalBy (semaphore_done row i) (λ x. SemaphoreOf i ∷ []) o
semaphore_local row i o lt kept =
    seen_local look (λ c. (row c).0) (λ c p. SemaphorePart (row c).1) (SemaphoreOf i ∷ [])
    (semaphore_done row i) o kept (record {
      looks = λ other alike. let e = alike (SemaphoreOf i) (grind arith) in cc;
      does = λ x. refl;
      writes =
          λ x kept_x p among. subst
          (λ (q : Object). part_of (semaphore_done row i x).1 q ≡ SemaphorePart (row (look x)).1)
          (sym (among_one p (SemaphoreOf i) among)) (ap SemaphorePart (at_i x kept_x));
      leaves = leaves_by;
    })
  where
    look : Objects → Semaphore
    look x = slice_index_or x.semaphores i unposted

    at_i :
        (x : Objects) → IsKept x
        → slice_index_or (semaphore_done row i x).1.semaphores i unposted
        ≡ (row (slice_index_or x.semaphores i unposted)).1
    at_i x kept_x =
        get_or-set_same x.semaphores i (row (slice_index_or x.semaphores i unposted)).1 unposted
        (omega (arith, kept_x.all_semaphores))

    leaves_by :
        (p : Object) → is_among p (SemaphoreOf i ∷ []) ≡ false → part_of (semaphore_done row i o).1 p ≡ part_of o p
    leaves_by (SemaphoreOf k) apart =
        ap SemaphorePart
        (get_or-set_other o.semaphores i k (row (slice_index_or o.semaphores i unposted)).1 unposted (grind arith))
    leaves_by Output apart = refl
    leaves_by ThreadTable apart = refl
    leaves_by (MutexOf k) apart = refl
    leaves_by (BarrierOf k) apart = refl
    leaves_by (ConditionOf k) apart = refl
    leaves_by (RwLockOf k) apart = refl

pub on_semaphore_local :
    (row : Semaphore → Effect × Semaphore) (i : ℕ) (o : Objects) → IsKept o
    → IsLocalBy (λ x. on_semaphore row x i) (λ x. one_of (nat_lt i 64) (SemaphoreOf i)) o
on_semaphore_local row i o kept = by_range (nat_lt i 64) refl
  where
    by_range :
        (b : Bool) → nat_lt i 64 ≡ b
        → IsLocalBy
        (λ (x : Objects). let r : Effect
        × List Semaphore =
        (if b then
        (let r = row (slice_index_or x.semaphores i unposted) in (r.0, slice_set x.semaphores i r.1))
        else (answers answer_einval, x.semaphores)) in (r.0, record x { semaphores = r.1 }))
        (λ x. one_of b (SemaphoreOf i)) o
    by_range true is = semaphore_local row i o (ltb-true i 64 is) kept
    by_range false is = nothing_local (answers answer_einval) [] o
