-- How many threads a call wakes.
use Rattle.std.proofs.Common.{◌≡◌, ◌<◌, ◌≤◌, ◌+◌, ◌%◌, ℕ, Bool, true, false, cond, List, [], ◌∷◌, ◌++◌, Option, Some, None, length, refl, ap, arith}
use Rattle.std.specs.Prelude.{nat_lt, nat_le, is_none, is_some, not, ◌&&◌, ◌==◌, slice_index_or}
use Rattle.guest_call.specs.declared.TheConstants.{OBJECTS}
use Rattle.guest_call.specs.declared.thread_number.TheConstants.{THREADS}
use Rattle.guest_call.specs.declared.Call.{Call}
use Rattle.guest_call.specs.declared.Call.TheVariants.{Exit, Put, Create, ThreadExit, Join, Yield, Lock, TryLock, Unlock, SemWait, SemTryWait, SemPost, SemInit, BarrierInit, BarrierWait, CondWait, Signal, Broadcast, RdLock, WrLock, RwUnlock, TryWrLock}
use Rattle.guest_call.specs.Effect.{Effect}
use Rattle.guest_call.specs.Tables.{at_cell, checked}
use Rattle.guest_call.specs.Objects.{Objects, act, leave, on_pair, on_semaphore, on_barrier, condition_at, mutex_at}
use Rattle.guest_call.specs.Mutexes.{Mutex, unlocked, handed_over, lock_row, trylock_row, unlock_row, owns}
use Rattle.guest_call.specs.Semaphores.{Semaphore, unposted, posted, sem_wait_row, sem_trywait_row, sem_post_row, sem_init_row, largest_value}
use Rattle.guest_call.specs.Barriers.{Barrier, uninitialised, is_count, barrier_init_row}
use Rattle.guest_call.specs.Conditions.{Condition, Leaving, admit_each, cond_wait_row, leave_row, signal_leaving, broadcast_leaving}
use Rattle.guest_call.specs.RwLocks.{RwLock, unheld, holds, is_held, reads, rdlock_row, wrlock_row, trywrlock_row}
use Rattle.guest_call.specs.Threads.{Member, member_at, waiting_joiner, joins, create_row, join_row}
use Rattle.machine_spec.specs.declared.states.Asked.TheVariants.{Asks}
use Rattle.machine_calls.specs.Views.{most_views}

-- an effect wakes one thread at most
abbrev Few : Effect → Type 0
Few e = length e.woken ≤ 1

either : {S : Type 0} (b : Bool) (x y : Effect × S) → Few x.0 → Few y.0 → Few (cond b x y).0
either true x y p q = p
either false x y p q = q

either_of_pair :
    {S T : Type 0} (b : Bool) (x y : Effect × S × T) → Few x.0 → Few y.0 → Few (cond b x y).0
either_of_pair true x y p q = p
either_of_pair false x y p q = q

at_object :
    {C : Type 0} (free : C) (row : C → Effect × C) (cells : List C) (i : ℕ) → ((cell : C) → Few (row cell).0)
    → Few (at_cell free row cells i).0
at_object free row cells i few = either (nat_lt i OBJECTS) _ _ (few (slice_index_or cells i free)) (omega arith)

in_range : (b : Bool) (o : Objects) (r : Effect × Objects) → Few r.0 → Few (checked b o r).0
in_range true o r few = few
in_range false o r few = omega arith

handed : (queue : List ℕ) → length (handed_over queue).0 ≤ 1
handed [] = omega arith
handed (u ∷ rest) = omega arith

lock : (t : ℕ) (x : Mutex) → Few (lock_row t x).0
lock t x = either (is_none x.owner) _ _ (omega arith) (either (owns x.owner t) _ _ (omega arith) (omega arith))

trylock : (t : ℕ) (x : Mutex) → Few (trylock_row t x).0
trylock t x = either (is_none x.owner) _ _ (omega arith) (omega arith)

unlock : (t : ℕ) (x : Mutex) → Few (unlock_row t x).0
unlock t x = either (owns x.owner t) _ _ (handed x.queue) (omega arith)

wait : (t : ℕ) (x : Semaphore) → Few (sem_wait_row t x).0
wait t x = either (nat_lt 0 x.value) _ _ (omega arith) (omega arith)

try_wait : (x : Semaphore) → Few (sem_trywait_row x).0
try_wait x = either (nat_lt 0 x.value) _ _ (omega arith) (omega arith)

post : (n : ℕ) (queue : List ℕ) → Few (posted n queue).0
post n [] = either (n == largest_value) _ _ (omega arith) (omega arith)
post n (u ∷ rest) = omega arith

set_value : (n : ℕ) (x : Semaphore) → Few (sem_init_row n x).0
set_value n x = either (length x.queue == 0) _ _ (omega arith) (omega arith)

set_count : (n : ℕ) (x : Barrier) → Few (barrier_init_row n x).0
set_count n x = either (length x.queue == 0) _ _ (omega arith) (omega arith)

await : (t m : ℕ) (c : Condition) (x : Mutex) → Few (cond_wait_row t m c x).0
await t m c x =
    either_of_pair (not (owns x.owner t)) _ _ (omega arith)
    (either_of_pair (not (length c.queue == 0) && not (c.mutex == m)) _ _ (omega arith) (handed x.queue))

joiner : (value joins : Option ℕ) → length (waiting_joiner value joins) ≤ 1
joiner None None = omega arith
joiner None (Some t) = omega arith
joiner (Some v) joins = omega arith

joined : (value : Option ℕ) → Few (joins value)
joined None = omega arith
joined (Some v) = omega arith

-- a mutex with an owner admits no thread
admits_none : (threads : List ℕ) (owner : ℕ) (queue : List ℕ)
    → (admit_each threads (record { owner = Some owner; queue = queue })).0 ≡ []
admits_none [] owner queue = refl
admits_none (u ∷ rest) owner queue = admits_none rest owner (queue ++ u ∷ [])

admits : (threads : List ℕ) (owner : Option ℕ) (queue : List ℕ)
    → length (admit_each threads (record { owner = owner; queue = queue })).0 ≤ 1
admits [] owner queue = omega arith
admits (u ∷ rest) None queue = let none = ap length (admits_none rest u queue) in omega (arith, none)
admits (u ∷ rest) (Some v) queue = let none = ap length (admits_none rest v (queue ++ u ∷ [])) in omega (arith, none)

leaves : (leaving : Condition → Leaving) (o : Objects) (c : ℕ) → Few (leave leaving o c).0
leaves leaving o c =
    in_range (nat_lt c OBJECTS) o (on_pair (leave_row leaving) o c (condition_at o c).mutex)
    (admits (leaving (condition_at o c)).threads (mutex_at o (condition_at o c).mutex).owner
    (mutex_at o (condition_at o c).mutex).queue)

rdlock : (t : ℕ) (x : RwLock) → Few (rdlock_row t x).0
rdlock t x =
    either (owns x.writer t) _ _ (omega arith)
    (either (reads x t) _ _ (omega arith)
    (either (is_none x.writer && length x.queue == 0) _ _ (omega arith) (omega arith)))

wrlock : (t : ℕ) (x : RwLock) → Few (wrlock_row t x).0
wrlock t x = either (holds x t) _ _ (omega arith) (either (is_held x) _ _ (omega arith) (omega arith))

trywrlock : (t : ℕ) (x : RwLock) → Few (trywrlock_row t x).0
trywrlock t x = either (is_held x) _ _ (omega arith) (omega arith)

create : (pc argument : ℕ) (members : List Member) → Few (create_row pc argument members).0
create pc argument members =
    either (not (pc % 4 == 0)) _ _ (omega arith)
    (either (not (nat_lt (length members) THREADS)) _ _ (omega arith) (omega arith))

join : (t u : ℕ) (members : List Member) → Few (join_row t u members).0
join t u members =
    either (not (nat_lt u (length members))) _ _ (omega arith)
    (either (u == t) _ _ (omega arith)
    (either (is_some (member_at members u).joiner) _ _ (omega arith) (joined (member_at members u).value)))

-- If there are fewer views than the caller, the woken threads and a created thread need, there are fewer than were
-- made.
pub gives_few :
    (readable : ℕ → ℕ → Bool) (o : Objects) (t : ℕ) (call : Call) (views : ℕ)
    → views < length (act readable o t call).0.woken + 2 → views < THREADS + 2 → views < most_views (Asks call)
gives_few readable o t (Exit code) views lt room = omega arith
gives_few readable o t (Put p n) views lt room = omega arith
gives_few readable o t (Create pc argument) views lt room = let few = create pc argument o.threads in omega (arith, few)
gives_few readable o t (ThreadExit v) views lt room =
    let few = joiner (member_at o.threads t).value (member_at o.threads t).joiner in omega (arith, few)
gives_few readable o t (Join u) views lt room = let few = join t u o.threads in omega (arith, few)
gives_few readable o t Yield views lt room = omega arith
gives_few readable o t (Lock m) views lt room = let few = at_object unlocked (lock_row t) o.mutexes m (lock t) in omega (arith, few)
gives_few readable o t (TryLock m) views lt room =
    let few = at_object unlocked (trylock_row t) o.mutexes m (trylock t) in omega (arith, few)
gives_few readable o t (Unlock m) views lt room =
    let few = at_object unlocked (unlock_row t) o.mutexes m (unlock t) in omega (arith, few)
gives_few readable o t (SemWait s) views lt room =
    let few = at_object unposted (sem_wait_row t) o.semaphores s (wait t) in omega (arith, few)
gives_few readable o t (SemTryWait s) views lt room =
    let few = at_object unposted sem_trywait_row o.semaphores s try_wait in omega (arith, few)
gives_few readable o t (SemPost s) views lt room =
    let few = at_object unposted sem_post_row o.semaphores s (λ x. post x.value x.queue) in omega (arith, few)
gives_few readable o t (SemInit s n) views lt room =
    let few = in_range (nat_le n largest_value) o (on_semaphore (sem_init_row n) o s)
    (at_object unposted (sem_init_row n) o.semaphores s (set_value n)) in
    omega (arith, few)
gives_few readable o t (BarrierInit b n) views lt room =
    let few = in_range (is_count n) o (on_barrier (barrier_init_row n) o b)
    (at_object uninitialised (barrier_init_row n) o.barriers b (set_count n)) in
    omega (arith, few)
gives_few readable o t (BarrierWait b) views lt room = omega arith
gives_few readable o t (CondWait c m) views lt room =
    let few = in_range (nat_lt c OBJECTS && nat_lt m OBJECTS) o (on_pair (cond_wait_row t m) o c m)
    (await t m (condition_at o c) (mutex_at o m)) in
    omega (arith, few)
gives_few readable o t (Signal c) views lt room = let few = leaves signal_leaving o c in omega (arith, few)
gives_few readable o t (Broadcast c) views lt room = let few = leaves broadcast_leaving o c in omega (arith, few)
gives_few readable o t (RdLock r) views lt room =
    let few = at_object unheld (rdlock_row t) o.rwlocks r (rdlock t) in omega (arith, few)
gives_few readable o t (WrLock r) views lt room =
    let few = at_object unheld (wrlock_row t) o.rwlocks r (wrlock t) in omega (arith, few)
gives_few readable o t (RwUnlock r) views lt room = omega arith
gives_few readable o t (TryWrLock r) views lt room =
    let few = at_object unheld (trywrlock_row t) o.rwlocks r (trywrlock t) in omega (arith, few)
