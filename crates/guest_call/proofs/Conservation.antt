-- No call loses a thread or puts it in two places: for each row, and for all calls.
use Rattle.std.proofs.Common.{◌≡◌, ℕ, ◌+◌, ◌<◌, ◌≤◌, Bool, true, false, List, length, nat_lt, nat_le, slice_index_or, slice_set, Option, Some, None, if◌then◌else◌, not, ◌&&◌, is_some, ◌==◌, ap, arith, refl, ltb-true}
use Rattle.std.proofs.lemmas.Bool.{and_parts}
use Rattle.guest_call.specs.Answers.{answer_esrch, answer_edeadlk}
use Rattle.guest_call.specs.declared.Call.{Call}
use Rattle.guest_call.specs.declared.Call.TheVariants.{Exit, Put, Create, ThreadExit, Join, Yield, Lock, TryLock, Unlock, SemWait, SemTryWait, SemPost, SemInit, BarrierInit, BarrierWait, CondWait, Signal, Broadcast, RdLock, WrLock, RwUnlock, TryWrLock}
use Rattle.guest_call.specs.Answers.{answer_einval}
use Rattle.guest_call.specs.Effect.{Effect, answers}
use Rattle.guest_call.specs.Queues.{places, waits, entering, Keeps}
use Rattle.guest_call.specs.Tables.{at_cell, checked, IsFair}
use Rattle.guest_call.specs.Mutexes.{Mutex, unlocked, mutex_queue, lock_row, trylock_row, unlock_row}
use Rattle.guest_call.specs.Semaphores.{Semaphore, unposted, semaphore_queue, largest_value, sem_wait_row, sem_trywait_row, sem_post_row, sem_init_row}
use Rattle.guest_call.specs.Barriers.{Barrier, uninitialised, barrier_queue, is_count, barrier_init_row, barrier_wait_row}
use Rattle.guest_call.specs.Conditions.{Condition, Leaving, unawaited, condition_queue, cond_wait_row, signal_leaving, broadcast_leaving, leave_row}
use Rattle.guest_call.specs.RwLocks.{RwLock, unheld, rwlock_queue, rdlock_row, wrlock_row, rwunlock_row, trywrlock_row}
use Rattle.guest_call.specs.Threads.{Member, fresh, member_queue, member_at, waiting_joiner, joins, create_row, ended_with, joined_by, thread_exit_row, join_row}
use Rattle.guest_call.specs.Objects.{Objects, on_threads, on_mutex, on_semaphore, on_barrier, on_rwlock, on_pair, condition_at, mutex_at, leave, waits_at, put_answer, act, IsKept}
use Rattle.guest_call.proofs.Counting.{places-nil, entering-returns, entering-ends, entering-exits, entering-blocks, waits-push, waits-set, places-cons}
use Rattle.guest_call.proofs.Shape.{kept_shaped, condition_named}
pub use Rattle.guest_call.proofs.Rows.{IsFairPair, lock_fair, trylock_fair, unlock_fair, sem_wait_fair, sem_trywait_fair, sem_post_fair, sem_init_fair, barrier_init_fair, barrier_wait_fair, cond_wait_fair, leave_fair, signal_leaves, broadcast_leaves, rdlock_fair, wrlock_fair, rwunlock_fair, trywrlock_fair}

-- a call that changes nothing and wakes no thread
pub same_keeps : (w : ℕ → ℕ) (t a : ℕ) → Keeps w t (answers a) w
same_keeps w t a u = omega (arith, places-nil u, entering-returns t a None u)

-- a call of thread t on a table lost no thread of its queues and put none in two places
abbrev pub IsFairTable : {C : Type 0} → (C → List ℕ) → ℕ → List C → Effect × List C → Type 0
IsFairTable queue t cells r = Keeps (waits queue cells) t r.0 (waits queue r.1)

-- a row in a table, if it is fair at each object
pub at_cell_keeps :
    {C : Type 0} (queue : C → List ℕ) (free : C) (row : C → Effect × C) (cells : List C) (i t : ℕ) → 64 ≤ length cells
    → ((c : C) → IsFair queue t c (row c)) →
    IsFairTable queue t cells (at_cell free row cells i)
at_cell_keeps {C} queue free row cells i t enough fair = by_range (nat_lt i 64) refl
  where
    by_range : (b : Bool) → nat_lt i 64 ≡ b →
        IsFairTable queue t cells
        (if b then (let r = row (slice_index_or cells i free) in (r.0, slice_set cells i r.1))
        else (answers answer_einval, cells))
    by_range true is u =
        let c = slice_index_or cells i free in
        omega (arith, waits-set queue cells i (row c).1 free u (omega (arith, ltb-true i 64 is)), fair c u)
    by_range false is u = same_keeps (waits queue cells) t answer_einval u

pub create_fair :
    (t pc argument : ℕ) (members : List Member) → IsFairTable member_queue t members (create_row pc argument members)
create_fair t pc argument members u = grind (arith, places-nil, entering-returns, waits-push)

pub thread_exit_fair :
    (t v : ℕ) (members : List Member) → t < length members
    → IsFairTable member_queue t members (thread_exit_row t v members)
thread_exit_fair t v members lt u =
    omega (
      arith,
      waits-set member_queue members t (ended_with v (member_at members t)) fresh u lt,
      places-nil u,
      entering-ends t v u,
    )

-- what a join does to the thread that it joins
pub joins_fair : (t : ℕ) (value : Option ℕ) → (u : ℕ) →
    places u (waiting_joiner value (Some t)) + places u (joins value).woken
    ≡ places u (waiting_joiner value None) + entering t (joins value).fate u
joins_fair t None u = grind (arith, places-nil, places-cons, entering-blocks)
joins_fair t (Some v) u = grind (arith, places-nil, entering-returns)

-- the last case of join
pub joined_fair : (t v : ℕ) (members : List Member) → v < length members → (member_at members v).joiner ≡ None →
    IsFairTable member_queue t members
    (joins (member_at members v).value, slice_set members v (joined_by t (member_at members v)))
joined_fair t v members lt nobody u =
    let m = member_at members v in
    let before : places u (waiting_joiner m.value m.joiner) ≡ places u (waiting_joiner m.value None) =
    ap (λ j. places u (waiting_joiner m.value j)) nobody in
    omega (arith, waits-set member_queue members v (joined_by t m) fresh u lt, joins_fair t m.value u, before)

pub join_fair : (t v : ℕ) (members : List Member) → IsFairTable member_queue t members (join_row t v members)
join_fair t v members = by_tests (nat_lt v (length members)) (v == t) (member_at members v).joiner refl refl
  where
    by_tests : (b c : Bool) (j : Option ℕ) → nat_lt v (length members) ≡ b → (member_at members v).joiner ≡ j →
        IsFairTable member_queue t members
        (if not b then (answers answer_esrch, members)
        else if c then (answers answer_edeadlk, members)
        else if is_some j then (answers answer_einval, members)
        else (joins (member_at members v).value, slice_set members v (joined_by t (member_at members v))))
    by_tests false c j lt is = same_keeps (waits member_queue members) t answer_esrch
    by_tests true true j lt is = same_keeps (waits member_queue members) t answer_edeadlk
    by_tests true false (Some u) lt is = same_keeps (waits member_queue members) t answer_einval
    by_tests true false None lt is = joined_fair t v members (ltb-true v (length members) lt) is

-- a row on a mutex, if it is fair
pub on_mutex_keeps :
    (row : Mutex → Effect × Mutex) (t m : ℕ) (o : Objects) → ((c : Mutex) → IsFair mutex_queue t c (row c)) → IsKept o →
    Keeps (waits_at o) t (on_mutex row o m).0 (waits_at (on_mutex row o m).1)
on_mutex_keeps row t m o fair kept u =
    omega (arith, at_cell_keeps mutex_queue unlocked row o.mutexes m t (omega (arith, kept.all_mutexes)) fair u)

-- a row on a semaphore, if it is fair
pub on_semaphore_keeps :
    (row : Semaphore → Effect × Semaphore) (t s : ℕ) (o : Objects)
    → ((c : Semaphore) → IsFair semaphore_queue t c (row c)) → IsKept o →
    Keeps (waits_at o) t (on_semaphore row o s).0 (waits_at (on_semaphore row o s).1)
on_semaphore_keeps row t s o fair kept u =
    omega (
      arith,
      at_cell_keeps semaphore_queue unposted row o.semaphores s t (omega (arith, kept.all_semaphores)) fair u,
    )

-- a row on a barrier, if it is fair
pub on_barrier_keeps :
    (row : Barrier → Effect × Barrier) (t b : ℕ) (o : Objects) → ((c : Barrier) → IsFair barrier_queue t c (row c))
    → IsKept o →
    Keeps (waits_at o) t (on_barrier row o b).0 (waits_at (on_barrier row o b).1)
on_barrier_keeps row t b o fair kept u =
    omega (
      arith,
      at_cell_keeps barrier_queue uninitialised row o.barriers b t (omega (arith, kept.all_barriers)) fair u,
    )

-- a row on a reader-writer lock, if it is fair
pub on_rwlock_keeps :
    (row : RwLock → Effect × RwLock) (t i : ℕ) (o : Objects) → ((c : RwLock) → IsFair rwlock_queue t c (row c)) → IsKept o →
    Keeps (waits_at o) t (on_rwlock row o i).0 (waits_at (on_rwlock row o i).1)
on_rwlock_keeps row t i o fair kept u =
    omega (arith, at_cell_keeps rwlock_queue unheld row o.rwlocks i t (omega (arith, kept.all_rwlocks)) fair u)

-- a row on a condition and a mutex that exist, if it is fair
pub on_pair_keeps : (row : Condition → Mutex → Effect × Condition × Mutex) (t c m : ℕ) (o : Objects) → c < 64 → m < 64 →
    IsFairPair t (condition_at o c) (mutex_at o m) (row (condition_at o c) (mutex_at o m)) → IsKept o →
    Keeps (waits_at o) t (on_pair row o c m).0 (waits_at (on_pair row o c m).1)
on_pair_keeps row t c m o c_in m_in fair kept u =
    let r = row (condition_at o c) (mutex_at o m) in
    omega (
      arith,
      waits-set condition_queue o.conditions c r.1 unawaited u (omega (arith, kept.all_conditions)),
      waits-set mutex_queue o.mutexes m r.2 unlocked u (omega (arith, kept.all_mutexes)),
      fair u,
    )

-- a call that is refused if its arguments are out of range
pub checked_keeps :
    (b : Bool) (t : ℕ) (o : Objects) (r : Effect × Objects) → (b ≡ true → Keeps (waits_at o) t r.0 (waits_at r.1)) →
    Keeps (waits_at o) t (checked b o r).0 (waits_at (checked b o r).1)
checked_keeps true t o r keeps = keeps refl
checked_keeps false t o r keeps = same_keeps (waits_at o) t answer_einval

pub cond_wait_keeps : (t c m : ℕ) (o : Objects) → IsKept o → nat_lt c 64 && nat_lt m 64 ≡ true →
    Keeps (waits_at o) t (on_pair (cond_wait_row t m) o c m).0 (waits_at (on_pair (cond_wait_row t m) o c m).1)
cond_wait_keeps t c m o kept in_range =
    on_pair_keeps (cond_wait_row t m) t c m o
    (ltb-true c 64 (and_parts (nat_lt c 64) (nat_lt m 64) in_range).0)
    (ltb-true m 64 (and_parts (nat_lt c 64) (nat_lt m 64) in_range).1)
    (cond_wait_fair t m (condition_at o c) (mutex_at o m)) kept

-- threads that leave a condition, if they are some of those that waited
pub leave_keeps : (leaving : Condition → Leaving) (t c : ℕ) (o : Objects) →
    ((x :
    Condition) (u : ℕ) → places u (leaving x).threads + places u (leaving x).rest.queue ≡ places u x.queue)
    → IsKept o →
    Keeps (waits_at o) t (leave leaving o c).0 (waits_at (leave leaving o c).1)
leave_keeps leaving t c o leaves kept =
    checked_keeps (nat_lt c 64) t o (on_pair (leave_row leaving) o c (condition_at o c).mutex)
    (λ is.
    let c_in : c < 64 = ltb-true c 64 is in
    on_pair_keeps (leave_row leaving) t c (condition_at o c).mutex o c_in
    (condition_named o c (kept_shaped o kept) c_in)
    (leave_fair leaving t (condition_at o c) (mutex_at o (condition_at o c).mutex) leaves) kept)

-- a row on the table of threads, if it is fair
pub on_threads_keeps :
    (row : List Member → Effect × List Member) (t : ℕ) (o : Objects)
    → IsFairTable member_queue t o.threads (row o.threads) →
    Keeps (waits_at o) t (on_threads row o).0 (waits_at (on_threads row o).1)
on_threads_keeps row t o fair u = omega (arith, fair u)

-- no call loses a thread or puts it in two places
pub act_keeps : (readable : ℕ → ℕ → Bool) (o : Objects) (t : ℕ) (call : Call) → IsKept o → t < length o.threads →
    Keeps (waits_at o) t (act readable o t call).0 (waits_at (act readable o t call).1)
act_keeps readable o t (Exit code) kept lt = λ u. omega (arith, places-nil u, entering-exits t code u)
act_keeps readable o t (Put p n) kept lt = same_keeps (waits_at o) t (put_answer readable p n)
act_keeps readable o t (Create pc argument) kept lt =
    on_threads_keeps (create_row pc argument) t o (create_fair t pc argument o.threads)
act_keeps readable o t (ThreadExit v) kept lt =
    on_threads_keeps (thread_exit_row t v) t o (thread_exit_fair t v o.threads lt)
act_keeps readable o t (Join u) kept lt = on_threads_keeps (join_row t u) t o (join_fair t u o.threads)
act_keeps readable o t Yield kept lt = same_keeps (waits_at o) t 0
act_keeps readable o t (Lock m) kept lt = on_mutex_keeps (lock_row t) t m o (lock_fair t) kept
act_keeps readable o t (TryLock m) kept lt = on_mutex_keeps (trylock_row t) t m o (trylock_fair t) kept
act_keeps readable o t (Unlock m) kept lt = on_mutex_keeps (unlock_row t) t m o (unlock_fair t) kept
act_keeps readable o t (SemWait s) kept lt = on_semaphore_keeps (sem_wait_row t) t s o (sem_wait_fair t) kept
act_keeps readable o t (SemTryWait s) kept lt = on_semaphore_keeps sem_trywait_row t s o (sem_trywait_fair t) kept
act_keeps readable o t (SemPost s) kept lt = on_semaphore_keeps sem_post_row t s o (sem_post_fair t) kept
act_keeps readable o t (SemInit s n) kept lt =
    checked_keeps (nat_le n largest_value) t o (on_semaphore (sem_init_row n) o s)
    (λ _. on_semaphore_keeps (sem_init_row n) t s o (sem_init_fair t n) kept)
act_keeps readable o t (BarrierInit b n) kept lt =
    checked_keeps (is_count n) t o (on_barrier (barrier_init_row n) o b)
    (λ _. on_barrier_keeps (barrier_init_row n) t b o (barrier_init_fair t n) kept)
act_keeps readable o t (BarrierWait b) kept lt = on_barrier_keeps (barrier_wait_row t) t b o (barrier_wait_fair t) kept
act_keeps readable o t (CondWait c m) kept lt =
    checked_keeps (nat_lt c 64 && nat_lt m 64) t o (on_pair (cond_wait_row t m) o c m) (cond_wait_keeps t c m o kept)
act_keeps readable o t (Signal c) kept lt = leave_keeps signal_leaving t c o signal_leaves kept
act_keeps readable o t (Broadcast c) kept lt = leave_keeps broadcast_leaving t c o broadcast_leaves kept
act_keeps readable o t (RdLock r) kept lt = on_rwlock_keeps (rdlock_row t) t r o (rdlock_fair t) kept
act_keeps readable o t (WrLock r) kept lt = on_rwlock_keeps (wrlock_row t) t r o (wrlock_fair t) kept
act_keeps readable o t (RwUnlock r) kept lt = on_rwlock_keeps (rwunlock_row t) t r o (rwunlock_fair t) kept
act_keeps readable o t (TryWrLock r) kept lt = on_rwlock_keeps (trywrlock_row t) t r o (trywrlock_fair t) kept
