-- What each call keeps of the objects: how many there are, that a thread has one place at most, and which have ended.
use Rattle.std.proofs.Common.{◌≡◌, ℕ, ◌+◌, ◌<◌, ◌≤◌, ◌≢◌, Bool, true, false, List, [], ◌∷◌, ◌++◌, length, nat_lt, slice_set, arith, refl, sym, ap, ◌∙◌, ltb-true, ltb-false, ⊎_elim}
use Rattle.std.proofs.lemmas.Bool.{cases_eq}
use Rattle.std.proofs.lemmas.Bool.Decides.{nat_tests}
use Rattle.std.proofs.lemmas.List.{length-set, length_push, get_or-set_same, get_or-set_other, get_or_push, get_or_append_left, get_or_past}
use Rattle.guest_call.specs.declared.Call.{Call}
use Rattle.guest_call.specs.declared.Call.TheVariants.{Exit, Put, Create, ThreadExit, Join, Yield, Lock, TryLock, Unlock, SemWait, SemTryWait, SemPost, SemInit, BarrierInit, BarrierWait, CondWait, Signal, Broadcast, RdLock, WrLock, RwUnlock, TryWrLock}
use Rattle.guest_call.specs.Effect.{Effect, ended_after}
use Rattle.guest_call.specs.Queues.{waits, Keeps}
use Rattle.guest_call.specs.Mutexes.{unlocked, mutex_queue}
use Rattle.guest_call.specs.Semaphores.{unposted, semaphore_queue}
use Rattle.guest_call.specs.Barriers.{uninitialised, barrier_queue}
use Rattle.guest_call.specs.Conditions.{unawaited, condition_queue}
use Rattle.guest_call.specs.RwLocks.{unheld, rwlock_queue}
use Rattle.guest_call.specs.Threads.{Member, fresh, member_at, ended_with, joined_by, create_row, thread_exit_row, join_row}
use Rattle.guest_call.specs.Objects.{Objects, all_unlocked, all_unposted, all_uninitialised, all_unawaited, all_unheld, opening, waits_at, ended_at, put_answer, appends, act, created_count, IsKept}
use Rattle.guest_call.proofs.Counting.{places-nil, entering-other, entering-le, waits-replicate}
use Rattle.guest_call.proofs.Conservation.{act_keeps}
pub use Rattle.guest_call.proofs.Shape.{length-at_cell}
use Rattle.guest_call.proofs.Shape.{IsShaped, kept_shaped, act_shaped, opening_shaped}

-- as many threads as before, and those that are created, after each row on the table of threads
pub length-create :
    (pc argument : ℕ) (members : List Member)
    → length (create_row pc argument members).1
    ≡ length members + created_count (create_row pc argument members).0.created
length-create pc argument members = grind (arith, length_push)

pub length-create-le :
    (pc argument : ℕ) (members : List Member) → length members ≤ 32 → length (create_row pc argument members).1 ≤ 32
length-create-le pc argument members few = grind (arith, nat_tests, length_push)

pub length-join :
    (t u : ℕ) (members : List Member)
    → length (join_row t u members).1 ≡ length members + created_count (join_row t u members).0.created
length-join t u members = grind (arith, length-set)

-- a call makes one more thread exactly if its effect creates one
pub act_creates : (readable : ℕ → ℕ → Bool) (o : Objects) (t : ℕ) (call : Call) →
    length (act readable o t call).1.threads ≡ length o.threads + created_count (act readable o t call).0.created
act_creates readable o t (Exit code) = omega arith
act_creates readable o t (Put p n) = omega arith
act_creates readable o t (Create pc argument) = length-create pc argument o.threads
act_creates readable o t (ThreadExit v) = omega (arith, length-set o.threads t (ended_with v (member_at o.threads t)))
act_creates readable o t (Join u) = length-join t u o.threads
act_creates readable o t Yield = omega arith
act_creates readable o t (Lock m) = grind arith
act_creates readable o t (TryLock m) = grind arith
act_creates readable o t (Unlock m) = grind arith
act_creates readable o t (SemWait s) = grind arith
act_creates readable o t (SemTryWait s) = grind arith
act_creates readable o t (SemPost s) = grind arith
act_creates readable o t (SemInit s n) = grind arith
act_creates readable o t (BarrierInit b n) = grind arith
act_creates readable o t (BarrierWait b) = grind arith
act_creates readable o t (CondWait c m) = grind arith
act_creates readable o t (Signal c) = grind arith
act_creates readable o t (Broadcast c) = grind arith
act_creates readable o t (RdLock r) = grind arith
act_creates readable o t (WrLock r) = grind arith
act_creates readable o t (RwUnlock r) = grind arith
act_creates readable o t (TryWrLock r) = grind arith

-- no call makes a thread beyond 32
pub act_few :
    (readable : ℕ → ℕ → Bool) (o : Objects) (t : ℕ) (call : Call) → length o.threads ≤ 32
    → length (act readable o t call).1.threads ≤ 32
act_few readable o t (Exit code) few = few
act_few readable o t (Put p n) few = few
act_few readable o t (Create pc argument) few = length-create-le pc argument o.threads few
act_few readable o t (ThreadExit v) few = omega (arith, length-set o.threads t (ended_with v (member_at o.threads t)))
act_few readable o t (Join u) few = grind (arith, length-set)
act_few readable o t Yield few = few
act_few readable o t (Lock m) few = few
act_few readable o t (TryLock m) few = few
act_few readable o t (Unlock m) few = few
act_few readable o t (SemWait s) few = grind arith
act_few readable o t (SemTryWait s) few = grind arith
act_few readable o t (SemPost s) few = grind arith
act_few readable o t (SemInit s n) few = grind arith
act_few readable o t (BarrierInit b n) few = grind arith
act_few readable o t (BarrierWait b) few = grind arith
act_few readable o t (CondWait c m) few = grind arith
act_few readable o t (Signal c) few = grind arith
act_few readable o t (Broadcast c) few = grind arith
act_few readable o t (RdLock r) few = few
act_few readable o t (WrLock r) few = few
act_few readable o t (RwUnlock r) few = few
act_few readable o t (TryWrLock r) few = few

-- each thread still waits in at most one place, if the caller waited in none
pub once_kept :
    (w after : ℕ → ℕ) (t : ℕ) (e : Effect) → Keeps w t e after → w t ≡ 0 → ((u : ℕ) → w u ≤ 1) → (u : ℕ) → after u ≤ 1
once_kept w after t e keeps free once u =
    ⊎_elim (λ same. omega (arith, keeps u, entering-le t e.fate u, ap w same, free))
    (λ other. omega (arith, keeps u, entering-other t e.fate u other, once u)) (cases_eq u t)

-- a thread that doesn't exist still waits nowhere, if the caller exists
pub known_kept :
    (w after : ℕ → ℕ) (t n : ℕ) (e : Effect) → Keeps w t e after → t < n → ((u : ℕ) → n ≤ u → w u ≡ 0) → (u : ℕ) → n ≤ u
    → after u ≡ 0
known_kept w after t n e keeps there known u beyond =
    omega (arith, keeps u, entering-other t e.fate u (λ same. omega arith), known u beyond)

-- a call keeps the invariant of the objects, if its caller is a thread that waits nowhere
pub act_kept :
    (readable : ℕ → ℕ → Bool) (o : Objects) (t : ℕ) (call : Call) → IsKept o → t < length o.threads → waits_at o t ≡ 0
    → IsKept (act readable o t call).1
act_kept readable o t call kept there free =
    let r : Effect × Objects = act readable o t call in
    let keeps : Keeps (waits_at o) t r.0 (waits_at r.1) = act_keeps readable o t call kept there in
    let shaped : IsShaped r.1 = act_shaped readable o t call (kept_shaped o kept) in
    let more : length r.1.threads ≡ length o.threads + created_count r.0.created = act_creates readable o t call in
    record {
      some_thread = omega (arith, more, kept.some_thread);
      few_threads = act_few readable o t call kept.few_threads;
      all_mutexes = shaped.all_mutexes;
      all_semaphores = shaped.all_semaphores;
      all_barriers = shaped.all_barriers;
      all_conditions = shaped.all_conditions;
      all_rwlocks = shaped.all_rwlocks;
      named = shaped.named;
      once = once_kept (waits_at o) (waits_at r.1) t r.0 keeps free kept.once;
      known = λ u beyond. known_kept (waits_at o) (waits_at r.1) t (length o.threads) r.0 keeps there kept.known u
          (omega (arith, more));
    }

pub opening_waits : (t : ℕ) → waits_at opening t ≡ 0
unfolding all_unlocked all_unposted all_uninitialised all_unawaited all_unheld waits
opening_waits t =
    omega (
      arith,
      waits-replicate mutex_queue 64 unlocked t refl,
      waits-replicate semaphore_queue 64 unposted t refl,
      waits-replicate barrier_queue 64 uninitialised t refl,
      waits-replicate condition_queue 64 unawaited t refl,
      waits-replicate rwlock_queue 64 unheld t refl,
      places-nil t,
    )

-- the invariant of the objects holds at the start
pub opening_kept : IsKept opening
opening_kept = record {
  some_thread = omega arith;
  few_threads = omega arith;
  all_mutexes = opening_shaped.all_mutexes;
  all_semaphores = opening_shaped.all_semaphores;
  all_barriers = opening_shaped.all_barriers;
  all_conditions = opening_shaped.all_conditions;
  all_rwlocks = opening_shaped.all_rwlocks;
  named = opening_shaped.named;
  once = λ t. omega (arith, opening_waits t);
  known = λ t beyond. opening_waits t;
}

-- which threads have ended, after a fresh thread was added: as before
pub value-push :
    (members : List Member) (u : ℕ) → (member_at (members ++ fresh ∷ []) u).value ≡ (member_at members u).value
value-push members u = by_order (nat_lt u (length members)) refl
  where
    beyond : length members ≤ u → (member_at (members ++ fresh ∷ []) u).value ≡ (member_at members u).value
    beyond le =
        ⊎_elim
        (λ same. ap (λ (c : Member). c.value) (get_or_push members fresh fresh u (sym same))
        ∙ sym (ap (λ (c : Member). c.value) (get_or_past members u fresh le)))
        (λ other. ap (λ (c : Member). c.value)
        (get_or_past (members ++ fresh ∷ []) u fresh (omega (arith, length_push members fresh)))
        ∙ sym (ap (λ (c : Member). c.value) (get_or_past members u fresh le)))
        (cases_eq u (length members))

    by_order :
        (b : Bool) → nat_lt u (length members) ≡ b
        → (member_at (members ++ fresh ∷ []) u).value ≡ (member_at members u).value
    by_order true is =
        ap (λ (c : Member). c.value) (get_or_append_left members (fresh ∷ []) fresh u (ltb-true u (length members) is))
    by_order false is = beyond (ltb-false u (length members) is)

-- after a thread got a joiner: as before
pub value-joined :
    (members : List Member) (t v u : ℕ)
    → (member_at (slice_set members v (joined_by t (member_at members v))) u).value ≡ (member_at members u).value
value-joined members t v u = ⊎_elim same other (cases_eq u v)
  where
    other :
        u ≢ v
        → (member_at (slice_set members v (joined_by t (member_at members v))) u).value ≡ (member_at members u).value
    other differs =
        ap (λ (m : Member). m.value) (get_or-set_other members v u (joined_by t (member_at members v)) fresh differs)

    by_order :
        (b : Bool) → nat_lt v (length members) ≡ b
        → (member_at (slice_set members v (joined_by t (member_at members v))) v).value ≡ (member_at members v).value
    by_order true is =
        ap (λ (m : Member). m.value)
        (get_or-set_same members v (joined_by t (member_at members v)) fresh (ltb-true v (length members) is))
    by_order false is =
        let beyond : length members ≤ v = ltb-false v (length members) is in
        let m = joined_by t (member_at members v) in
        ap (λ (x : Member). x.value)
        (get_or_past (slice_set members v m) v fresh (omega (arith, length-set members v m)))
        ∙ sym (ap (λ (x : Member). x.value) (get_or_past members v fresh beyond))

    same :
        u ≡ v
        → (member_at (slice_set members v (joined_by t (member_at members v))) u).value ≡ (member_at members u).value
    same is = rw is (by_order (nat_lt v (length members)) refl)

pub create_ended : (t pc argument : ℕ) (members : List Member) (u : ℕ) →
    (member_at (create_row pc argument members).1 u).value
    ≡ ended_after t (create_row pc argument members).0.fate u (member_at members u).value
create_ended t pc argument members u = grind (arith, value-push)

pub join_ended : (t v : ℕ) (members : List Member) (u : ℕ) →
    (member_at (join_row t v members).1 u).value
    ≡ ended_after t (join_row t v members).0.fate u (member_at members u).value
join_ended t v members u = grind (arith, value-joined)

pub thread_exit_ended : (t v : ℕ) (members : List Member) → t < length members → (u : ℕ) →
    (member_at (thread_exit_row t v members).1 u).value
    ≡ ended_after t (thread_exit_row t v members).0.fate u (member_at members u).value
thread_exit_ended t v members there u = grind (arith, get_or-set_same, get_or-set_other, cases_eq u t)

-- which threads have ended after a call: those of before, and the caller if it ends
pub act_ended : (readable : ℕ → ℕ → Bool) (o : Objects) (t : ℕ) (call : Call) → t < length o.threads → (u : ℕ) →
    ended_at (act readable o t call).1 u ≡ ended_after t (act readable o t call).0.fate u (ended_at o u)
act_ended readable o t (Exit code) there u = refl
act_ended readable o t (Put p n) there u = refl
act_ended readable o t (Create pc argument) there u = create_ended t pc argument o.threads u
act_ended readable o t (ThreadExit v) there u = thread_exit_ended t v o.threads there u
act_ended readable o t (Join v) there u = join_ended t v o.threads u
act_ended readable o t Yield there u = refl
act_ended readable o t (Lock m) there u = grind arith
act_ended readable o t (TryLock m) there u = grind arith
act_ended readable o t (Unlock m) there u = grind arith
act_ended readable o t (SemWait s) there u = grind arith
act_ended readable o t (SemTryWait s) there u = grind arith
act_ended readable o t (SemPost s) there u = grind arith
act_ended readable o t (SemInit s n) there u = grind arith
act_ended readable o t (BarrierInit b n) there u = grind arith
act_ended readable o t (BarrierWait b) there u = grind arith
act_ended readable o t (CondWait c m) there u = grind arith
act_ended readable o t (Signal c) there u = grind arith
act_ended readable o t (Broadcast c) there u = grind arith
act_ended readable o t (RdLock r) there u = grind arith
act_ended readable o t (WrLock r) there u = grind arith
act_ended readable o t (RwUnlock r) there u = grind arith
act_ended readable o t (TryWrLock r) there u = grind arith

-- if put appends its bytes, it answers how many they are
pub put_answer-appends : (readable : ℕ → ℕ → Bool) (p n : ℕ) → appends readable p n ≡ true → put_answer readable p n ≡ n
put_answer-appends readable p n is = grind arith
