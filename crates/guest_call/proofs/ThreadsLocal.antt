-- A row on the table of threads reads and changes nothing but the table.
use Rattle.std.proofs.Common.{◌≡◌, ℕ, ◌==◌, ◌%◌, Bool, true, false, not, List, [], ◌∷◌, ◌++◌, length, nat_lt, if◌then◌else◌, refl, sym, subst, true≢false}
use Rattle.guest_call.specs.declared.Object.{Object}
use Rattle.guest_call.specs.declared.Object.TheVariants.{Output, ThreadTable, Mutex as MutexOf, Semaphore as SemaphoreOf, Barrier as BarrierOf, Condition as ConditionOf, RwLock as RwLockOf}
use Rattle.guest_call.specs.Answers.{answer_einval, answer_eagain}
use Rattle.guest_call.specs.Effect.{Effect, answers}
use Rattle.guest_call.specs.Threads.{Member, creates, fresh, create_row}
use Rattle.guest_call.specs.Objects.{Objects, on_threads, one_of, IsKept}
use Rattle.guest_call.specs.Locality.{ThreadsPart, part_of, is_among, IsLocalBy}
use Rattle.guest_call.proofs.Locality.{nothing_local, seen_local, among_one}

-- a row on the table of threads
pub on_threads_local :
    (row : List Member → Effect × List Member) (o : Objects) → IsKept o
    → IsLocalBy (λ x. on_threads row x) (λ x. ThreadTable ∷ []) o
on_threads_local row o kept =
    seen_local (λ x. x.threads) (λ c. (row c).0) (λ c p. ThreadsPart (row c).1) (ThreadTable ∷ [])
    (λ x. on_threads row x) o kept (record {
      looks = λ other alike. let e = alike ThreadTable refl in cc;
      does = λ x. refl;
      writes =
          λ x kept_x p among. subst (λ (q : Object). part_of (on_threads row x).1 q ≡ ThreadsPart (row x.threads).1)
          (sym (among_one p ThreadTable among)) refl;
      leaves = leaves_by;
    })
  where
    leaves_by : (p : Object) → is_among p (ThreadTable ∷ []) ≡ false → part_of (on_threads row o).1 p ≡ part_of o p
    leaves_by Output apart = refl
    leaves_by ThreadTable apart = absurd (true≢false apart)
    leaves_by (MutexOf k) apart = refl
    leaves_by (SemaphoreOf k) apart = refl
    leaves_by (BarrierOf k) apart = refl
    leaves_by (ConditionOf k) apart = refl
    leaves_by (RwLockOf k) apart = refl

-- create, which acts on the table of threads unless its pc is refused
pub create_local :
    (pc argument : ℕ) (o : Objects) → IsKept o
    → IsLocalBy (λ x. on_threads (create_row pc argument) x) (λ x. one_of (pc % 4 == 0) ThreadTable) o
create_local pc argument o kept = by_pc (pc % 4 == 0)
  where
    row_by : Bool → List Member → Effect × List Member
    row_by b members =
        if not b then (answers answer_einval, members)
        else if not (nat_lt (length members) 32) then (answers answer_eagain, members)
        else (creates (length members) pc argument, members ++ fresh ∷ [])

    by_pc : (b : Bool) → IsLocalBy (λ x. on_threads (row_by b) x) (λ x. one_of b ThreadTable) o
    by_pc true = on_threads_local (row_by true) o kept
    by_pc false = nothing_local (answers answer_einval) [] o
