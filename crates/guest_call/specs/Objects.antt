-- All objects of synchronisation, and what each environment call answers and changes.
use Rattle.std.specs.Prelude.{ℕ, ◌+◌, ◌^◌, ◌%◌, ◌==◌, ◌≡◌, ◌≤◌, ◌<◌, Bool, not, ◌&&◌, nat_lt, nat_le, List, [], ◌∷◌, length, replicate, slice_index_or, slice_set, Option, Some, None, All, if◌then◌else◌}
use Rattle.guest_call.specs.declared.TheConstants.{OBJECTS}
use Rattle.guest_call.specs.declared.thread_number.TheConstants.{THREADS}
use Rattle.guest_call.specs.declared.Call.{Call}
use Rattle.guest_call.specs.declared.Call.TheVariants.{Exit, Put, Create, ThreadExit, Join, Yield, Lock, TryLock, Unlock, SemWait, SemTryWait, SemPost, SemInit, BarrierInit, BarrierWait, CondWait, Signal, Broadcast, RdLock, WrLock, RwUnlock, TryWrLock}
use Rattle.guest_call.specs.declared.Object.{Object}
use Rattle.guest_call.specs.declared.Object.TheVariants as object
use Rattle.guest_call.specs.Answers.{answer_einval, answer_efault}
use Rattle.guest_call.specs.Effect.{Effect, answers, exits}
use Rattle.guest_call.specs.Queues.{waits}
use Rattle.guest_call.specs.Tables.{at_cell, checked}
use Rattle.guest_call.specs.Mutexes.{Mutex, unlocked, mutex_queue, lock_row, trylock_row, unlock_row}
use Rattle.guest_call.specs.Semaphores.{Semaphore, unposted, semaphore_queue, largest_value, sem_wait_row, sem_trywait_row, sem_post_row, sem_init_row}
use Rattle.guest_call.specs.Barriers.{Barrier, uninitialised, barrier_queue, is_count, barrier_init_row, barrier_wait_row}
use Rattle.guest_call.specs.Conditions.{Condition, Leaving, unawaited, condition_queue, cond_wait_row, signal_leaving, broadcast_leaving, leave_row}
use Rattle.guest_call.specs.RwLocks.{RwLock, unheld, rwlock_queue, rdlock_row, wrlock_row, rwunlock_row, trywrlock_row}
use Rattle.guest_call.specs.Threads.{Member, fresh, member_queue, member_at, create_row, thread_exit_row, join_row}

-- the threads and the objects of each kind
pub record Objects : Type 0 where
  pub threads : List Member
  pub mutexes : List Mutex
  pub semaphores : List Semaphore
  pub barriers : List Barrier
  pub conditions : List Condition
  pub rwlocks : List RwLock

-- 64 free mutexes
unfoldable pub all_unlocked : List Mutex
all_unlocked = replicate OBJECTS unlocked

-- 64 semaphores of value 0
unfoldable pub all_unposted : List Semaphore
all_unposted = replicate OBJECTS unposted

-- 64 barriers that aren't initialised
unfoldable pub all_uninitialised : List Barrier
all_uninitialised = replicate OBJECTS uninitialised

-- 64 conditions for which no thread waits
unfoldable pub all_unawaited : List Condition
all_unawaited = replicate OBJECTS unawaited

-- 64 reader-writer locks that no thread holds
unfoldable pub all_unheld : List RwLock
all_unheld = replicate OBJECTS unheld

-- the objects at the start: thread 0 alone exists, and nothing is in use
abbrev pub opening : Objects
opening =
    record {
      threads = fresh ∷ [];
      mutexes = all_unlocked;
      semaphores = all_unposted;
      barriers = all_uninitialised;
      conditions = all_unawaited;
      rwlocks = all_unheld;
    }

-- a row done on the table of threads
abbrev pub on_threads : (List Member → Effect × List Member) → Objects → Effect × Objects
on_threads row o = let r = row o.threads in (r.0, record o { threads = r.1 })

-- a row done on the mutex of number m
abbrev pub on_mutex : (Mutex → Effect × Mutex) → Objects → ℕ → Effect × Objects
on_mutex row o m = let r = at_cell unlocked row o.mutexes m in (r.0, record o { mutexes = r.1 })

-- a row done on the semaphore of number s
abbrev pub on_semaphore : (Semaphore → Effect × Semaphore) → Objects → ℕ → Effect × Objects
on_semaphore row o s = let r = at_cell unposted row o.semaphores s in (r.0, record o { semaphores = r.1 })

-- a row done on the barrier of number b
abbrev pub on_barrier : (Barrier → Effect × Barrier) → Objects → ℕ → Effect × Objects
on_barrier row o b = let r = at_cell uninitialised row o.barriers b in (r.0, record o { barriers = r.1 })

-- a row done on the reader-writer lock of number i
abbrev pub on_rwlock : (RwLock → Effect × RwLock) → Objects → ℕ → Effect × Objects
on_rwlock row o i = let r = at_cell unheld row o.rwlocks i in (r.0, record o { rwlocks = r.1 })

-- the condition of number c
abbrev pub condition_at : Objects → ℕ → Condition
condition_at o c = slice_index_or o.conditions c unawaited

-- the mutex of number m
abbrev pub mutex_at : Objects → ℕ → Mutex
mutex_at o m = slice_index_or o.mutexes m unlocked

-- a row done on the condition of number c and the mutex of number m
abbrev pub on_pair : (Condition → Mutex → Effect × Condition × Mutex) → Objects → ℕ → ℕ → Effect × Objects
on_pair row o c m =
    let r = row (condition_at o c) (mutex_at o m) in
    (r.0, record o { mutexes = slice_set o.mutexes m r.2; conditions = slice_set o.conditions c r.1 })

-- the threads that leave the condition of number c come to the mutex with which they waited (POSIX.1-2017,
-- pthread_cond_broadcast)
abbrev pub leave : (Condition → Leaving) → Objects → ℕ → Effect × Objects
leave leaving o c = checked (nat_lt c OBJECTS) o (on_pair (leave_row leaving) o c (condition_at o c).mutex)

-- whether the n bytes from p lie below 2^32 and may all be read
abbrev pub can_read : (ℕ → ℕ → Bool) → ℕ → ℕ → Bool
can_read readable p n = nat_le (p + n) (2 ^ 32) && readable p n

-- the answer of put: how many bytes it has appended, or why it has not (POSIX.1-2017, write)
abbrev pub put_answer : (ℕ → ℕ → Bool) → ℕ → ℕ → ℕ
put_answer readable p n =
    if nat_lt 4096 n then answer_einval
    else if n == 0 then 0
    else if not (can_read readable p n) then answer_efault
    else n

-- whether put appends its n bytes: there are some, no more than 4,096, and all may be read
abbrev pub appends : (ℕ → ℕ → Bool) → ℕ → ℕ → Bool
appends readable p n = not (nat_lt 4096 n) && not (n == 0) && can_read readable p n

-- what a call of thread t does to the threads and to the objects; `readable p n` says whether t may read the n bytes
-- from p
abbrev pub act : (ℕ → ℕ → Bool) → Objects → ℕ → Call → Effect × Objects
act readable o t (Exit code) = (exits code, o)
act readable o t (Put p n) = (answers (put_answer readable p n), o)
act readable o t (Create pc argument) = on_threads (create_row pc argument) o
act readable o t (ThreadExit v) = on_threads (thread_exit_row t v) o
act readable o t (Join u) = on_threads (join_row t u) o
act readable o t Yield = (answers 0, o)
act readable o t (Lock m) = on_mutex (lock_row t) o m
act readable o t (TryLock m) = on_mutex (trylock_row t) o m
act readable o t (Unlock m) = on_mutex (unlock_row t) o m
act readable o t (SemWait s) = on_semaphore (sem_wait_row t) o s
act readable o t (SemTryWait s) = on_semaphore sem_trywait_row o s
act readable o t (SemPost s) = on_semaphore sem_post_row o s
act readable o t (SemInit s n) = checked (nat_le n largest_value) o (on_semaphore (sem_init_row n) o s)
act readable o t (BarrierInit b n) = checked (is_count n) o (on_barrier (barrier_init_row n) o b)
act readable o t (BarrierWait b) = on_barrier (barrier_wait_row t) o b
act readable o t (CondWait c m) = checked (nat_lt c OBJECTS && nat_lt m OBJECTS) o (on_pair (cond_wait_row t m) o c m)
act readable o t (Signal c) = leave signal_leaving o c
act readable o t (Broadcast c) = leave broadcast_leaving o c
act readable o t (RdLock r) = on_rwlock (rdlock_row t) o r
act readable o t (WrLock r) = on_rwlock (wrlock_row t) o r
act readable o t (RwUnlock r) = on_rwlock (rwunlock_row t) o r
act readable o t (TryWrLock r) = on_rwlock (trywrlock_row t) o r

-- the object if a test holds, else none
abbrev pub one_of : Bool → Object → List Object
one_of test p = if test then p ∷ [] else []

-- the mutex of a condition, if a thread waits for it
abbrev pub waited_mutex : Condition → List Object
waited_mutex c = one_of (not (length c.queue == 0)) (object.Mutex c.mutex)

-- the objects on which a condition's waiters come and go: the condition, and its mutex if a thread waits
abbrev pub leave_objects : Objects → ℕ → List Object
leave_objects o c = if nat_lt c OBJECTS then object.Condition c ∷ waited_mutex (condition_at o c) else []

-- the objects on which a call acts: put on the output, if it appends; thread_exit and join on the threads, and so does
-- create if its pc is a multiple of 4; exit and yield on none; signal and broadcast on a mutex too, if a thread leaves;
-- all others on the objects that they name, if the arguments are in range
abbrev pub acts_on : (ℕ → ℕ → Bool) → Objects → Call → List Object
acts_on readable o (Exit code) = []
acts_on readable o (Put p n) = one_of (appends readable p n) object.Output
acts_on readable o (Create pc argument) = one_of (pc % 4 == 0) object.ThreadTable
acts_on readable o (ThreadExit v) = object.ThreadTable ∷ []
acts_on readable o (Join u) = object.ThreadTable ∷ []
acts_on readable o Yield = []
acts_on readable o (Lock m) = one_of (nat_lt m OBJECTS) (object.Mutex m)
acts_on readable o (TryLock m) = one_of (nat_lt m OBJECTS) (object.Mutex m)
acts_on readable o (Unlock m) = one_of (nat_lt m OBJECTS) (object.Mutex m)
acts_on readable o (SemWait s) = one_of (nat_lt s OBJECTS) (object.Semaphore s)
acts_on readable o (SemTryWait s) = one_of (nat_lt s OBJECTS) (object.Semaphore s)
acts_on readable o (SemPost s) = one_of (nat_lt s OBJECTS) (object.Semaphore s)
acts_on readable o (SemInit s n) = one_of (nat_lt s OBJECTS && nat_le n largest_value) (object.Semaphore s)
acts_on readable o (BarrierInit b n) = one_of (nat_lt b OBJECTS && is_count n) (object.Barrier b)
acts_on readable o (BarrierWait b) = one_of (nat_lt b OBJECTS) (object.Barrier b)
acts_on readable o (CondWait c m) =
    if nat_lt c OBJECTS && nat_lt m OBJECTS then object.Condition c ∷ object.Mutex m ∷ [] else []
acts_on readable o (Signal c) = leave_objects o c
acts_on readable o (Broadcast c) = leave_objects o c
acts_on readable o (RdLock r) = one_of (nat_lt r OBJECTS) (object.RwLock r)
acts_on readable o (WrLock r) = one_of (nat_lt r OBJECTS) (object.RwLock r)
acts_on readable o (RwUnlock r) = one_of (nat_lt r OBJECTS) (object.RwLock r)
acts_on readable o (TryWrLock r) = one_of (nat_lt r OBJECTS) (object.RwLock r)

-- in how many places thread t waits
abbrev pub waits_at : Objects → ℕ → ℕ
waits_at o t =
    waits member_queue o.threads t + waits mutex_queue o.mutexes t + waits semaphore_queue o.semaphores t
    + waits barrier_queue o.barriers t
    + waits condition_queue o.conditions t
    + waits rwlock_queue o.rwlocks t

-- the value with which thread u has ended, if it has (POSIX.1-2017, pthread_exit)
abbrev pub ended_at : Objects → ℕ → Option ℕ
ended_at o u = (member_at o.threads u).value

-- one thread at least and 32 at most, 64 objects of each kind; a condition's mutex is one of them; only threads of the
-- table wait, and each in at most one place
pub record IsKept (o : Objects) : Type 0 where
  pub some_thread : 1 ≤ length o.threads
  pub few_threads : length o.threads ≤ THREADS
  pub all_mutexes : length o.mutexes ≡ OBJECTS
  pub all_semaphores : length o.semaphores ≡ OBJECTS
  pub all_barriers : length o.barriers ≡ OBJECTS
  pub all_conditions : length o.conditions ≡ OBJECTS
  pub all_rwlocks : length o.rwlocks ≡ OBJECTS
  pub named : All (λ (c : Condition). c.mutex < OBJECTS) o.conditions
  pub once : (t : ℕ) → waits_at o t ≤ 1
  pub known : (t : ℕ) → length o.threads ≤ t → waits_at o t ≡ 0

-- how many threads an effect creates: one or none (POSIX.1-2017, pthread_create)
abbrev pub created_count : Option (ℕ × ℕ) → ℕ
created_count None = 0
created_count (Some begins) = 1
