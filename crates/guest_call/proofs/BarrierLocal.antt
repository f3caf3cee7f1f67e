-- A row on a barrier reads and changes nothing but the barrier.
use Rattle.std.proofs.Common.{◌≡◌, ℕ, ◌<◌, Bool, true, false, List, [], ◌∷◌, nat_lt, slice_index_or, slice_set, if◌then◌else◌, arith, refl, sym, ap, subst, ltb-true}
use Rattle.std.proofs.lemmas.List.{get_or-set_same, get_or-set_other}
use Rattle.guest_call.specs.declared.Object.{Object}
use Rattle.guest_call.specs.declared.Object.TheVariants.{Output, ThreadTable, Mutex as MutexOf, Semaphore as SemaphoreOf, Barrier as BarrierOf, Condition as ConditionOf, RwLock as RwLockOf}
use Rattle.guest_call.specs.Answers.{answer_einval}
use Rattle.guest_call.specs.Effect.{Effect, answers}
use Rattle.guest_call.specs.Barriers.{Barrier, uninitialised}
use Rattle.guest_call.specs.Objects.{Objects, on_barrier, one_of, IsKept}
use Rattle.guest_call.specs.Locality.{BarrierPart, part_of, is_among, IsLocalBy}
use Rattle.guest_call.proofs.Locality.{nothing_local, seen_local, among_one}

-- a row on barrier i, if there is one
abbrev pub barrier_done : (Barrier → Effect × Barrier) → ℕ → Objects → Effect × Objects
barrier_done row i o =
    let r = row (slice_index_or o.barriers i uninitialised) in (r.0, record o { barriers = slice_set o.barriers i r.1 })

-- a row on a barrier that exists
pub barrier_local :
    (row : Barrier → Effect × Barrier) (i : ℕ) (o : Objects) → i < 64 → IsKept o
    → IsLocalBy (barrier_done row i) (λ x. BarrierOf i ∷ []) o
barrier_local row i o lt kept =
    seen_local look (λ c. (row c).0) (λ c p. BarrierPart (row c).1) (BarrierOf i ∷ []) (barrier_done row i) o kept
    (record {
      looks = λ other alike. let e = alike (BarrierOf i) (grind arith) in cc;
      does = λ x. refl;
      writes =
          λ x kept_x p among. subst (λ (q : Object). part_of (barrier_done row i x).1 q ≡ BarrierPart (row (look x)).1)
          (sym (among_one p (BarrierOf i) among)) (ap BarrierPart (at_i x kept_x));
      leaves = leaves_by;
    })
  where
    look : Objects → Barrier
    look x = slice_index_or x.barriers i uninitialised

    at_i :
        (x : Objects) → IsKept x
        → slice_index_or (barrier_done row i x).1.barriers i uninitialised
        ≡ (row (slice_index_or x.barriers i uninitialised)).1
    at_i x kept_x =
        get_or-set_same x.barriers i (row (slice_index_or x.barriers i uninitialised)).1 uninitialised
        (omega (arith, kept_x.all_barriers))

    leaves_by : (p : Object) → is_among p (BarrierOf i ∷ []) ≡ false → part_of (barrier_done row i o).1 p ≡ part_of o p
    leaves_by (BarrierOf k) apart =
        ap BarrierPart
        (get_or-set_other o.barriers i k (row (slice_index_or o.barriers i uninitialised)).1 uninitialised
        (grind arith))
    leaves_by Output apart = refl
    leaves_by ThreadTable apart = refl
    leaves_by (MutexOf k) apart = refl
    leaves_by (SemaphoreOf k) apart = refl
    leaves_by (ConditionOf k) apart = refl
    leaves_by (RwLockOf k) apart = refl

pub on_barrier_local :
    (row : Barrier → Effect × Barrier) (i : ℕ) (o : Objects) → IsKept o
    → IsLocalBy (λ x. on_barrier row x i) (λ x. one_of (nat_lt i 64) (BarrierOf i)) o
on_barrier_local row i o kept = by_range (nat_lt i 64) refl
  where
    by_range :
        (b : Bool) → nat_lt i 64 ≡ b
        → IsLocalBy
        (λ (x : Objects). let r : Effect
        × List Barrier =
        (if b then
        (let r = row (slice_index_or x.barriers i uninitialised) in (r.0, slice_set x.barriers i r.1))
        else (answers answer_einval, x.barriers)) in (r.0, record x { barriers = r.1 }))
        (λ x. one_of b (BarrierOf i)) o
    by_range true is = barrier_local row i o (ltb-true i 64 is) kept
    by_range false is = nothing_local (answers answer_einval) [] o
