-- No call changes how many objects of each kind there are, and each condition's mutex stays one of them.
use Rattle.std.proofs.Common.{◌≡◌, ℕ, ◌<◌, Bool, true, false, List, [], ◌∷◌, length, nat_lt, nat_le, ◌&&◌, All, arith, refl, ◌∙◌, ltb-true}
use Rattle.std.proofs.lemmas.Bool.{and_parts}
use Rattle.std.proofs.lemmas.List.{length-replicate, length-set}
use Rattle.std.proofs.lemmas.List.Elements.{All-get_or, All-set, All-replicate}
use Rattle.guest_call.specs.declared.Call.{Call}
use Rattle.guest_call.specs.declared.Call.TheVariants.{Exit, Put, Create, ThreadExit, Join, Yield, Lock, TryLock, Unlock, SemWait, SemTryWait, SemPost, SemInit, BarrierInit, BarrierWait, CondWait, Signal, Broadcast, RdLock, WrLock, RwUnlock, TryWrLock}
use Rattle.guest_call.specs.Effect.{Effect}
use Rattle.guest_call.specs.Tables.{at_cell, checked}
use Rattle.guest_call.specs.Mutexes.{Mutex, unlocked, lock_row, trylock_row, unlock_row}
use Rattle.guest_call.specs.Semaphores.{Semaphore, unposted, largest_value, sem_wait_row, sem_trywait_row, sem_post_row, sem_init_row}
use Rattle.guest_call.specs.Barriers.{Barrier, uninitialised, is_count, barrier_init_row, barrier_wait_row}
use Rattle.guest_call.specs.Conditions.{Condition, Leaving, unawaited, cond_wait_row, first_leaves, signal_leaving, broadcast_leaving, leave_row}
use Rattle.guest_call.specs.RwLocks.{RwLock, unheld, rdlock_row, wrlock_row, rwunlock_row, trywrlock_row}
use Rattle.guest_call.specs.Threads.{Member, create_row, thread_exit_row, join_row}
use Rattle.guest_call.specs.Objects.{Objects, all_unlocked, all_unposted, all_uninitialised, all_unawaited, all_unheld, opening, on_threads, on_mutex, on_semaphore, on_barrier, on_rwlock, on_pair, condition_at, mutex_at, leave, act, IsKept}

-- the condition's mutex is one of the 64
abbrev pub IsNamed : Condition → Type 0
IsNamed c = c.mutex < 64

-- 64 objects of each kind, and a condition's mutex is one of them
pub record IsShaped (o : Objects) : Type 0 where
  pub all_mutexes : length o.mutexes ≡ 64
  pub all_semaphores : length o.semaphores ≡ 64
  pub all_barriers : length o.barriers ≡ 64
  pub all_conditions : length o.conditions ≡ 64
  pub all_rwlocks : length o.rwlocks ≡ 64
  pub named : All IsNamed o.conditions

pub kept_shaped : (o : Objects) → IsKept o → IsShaped o
kept_shaped o kept = record {
  all_mutexes = kept.all_mutexes;
  all_semaphores = kept.all_semaphores;
  all_barriers = kept.all_barriers;
  all_conditions = kept.all_conditions;
  all_rwlocks = kept.all_rwlocks;
  named = kept.named;
}

-- as many objects as before, after a row in a table
pub length-at_cell :
    {C : Type 0} (free : C) (row : C → Effect × C) (cells : List C) (i : ℕ)
    → length (at_cell free row cells i).1 ≡ length cells
length-at_cell free row cells i = grind (arith, length-set)

pub on_threads_shaped :
    (row : List Member → Effect × List Member) (o : Objects) → IsShaped o → IsShaped (on_threads row o).1
on_threads_shaped row o shaped = record {
  all_mutexes = shaped.all_mutexes;
  all_semaphores = shaped.all_semaphores;
  all_barriers = shaped.all_barriers;
  all_conditions = shaped.all_conditions;
  all_rwlocks = shaped.all_rwlocks;
  named = shaped.named;
}

pub on_mutex_shaped : (row : Mutex → Effect × Mutex) (m : ℕ) (o : Objects) → IsShaped o → IsShaped (on_mutex row o m).1
on_mutex_shaped row m o shaped = record {
  all_mutexes = length-at_cell unlocked row o.mutexes m ∙ shaped.all_mutexes;
  all_semaphores = shaped.all_semaphores;
  all_barriers = shaped.all_barriers;
  all_conditions = shaped.all_conditions;
  all_rwlocks = shaped.all_rwlocks;
  named = shaped.named;
}

pub on_semaphore_shaped :
    (row : Semaphore → Effect × Semaphore) (s : ℕ) (o : Objects) → IsShaped o → IsShaped (on_semaphore row o s).1
on_semaphore_shaped row s o shaped = record {
  all_mutexes = shaped.all_mutexes;
  all_semaphores = length-at_cell unposted row o.semaphores s ∙ shaped.all_semaphores;
  all_barriers = shaped.all_barriers;
  all_conditions = shaped.all_conditions;
  all_rwlocks = shaped.all_rwlocks;
  named = shaped.named;
}

pub on_barrier_shaped :
    (row : Barrier → Effect × Barrier) (b : ℕ) (o : Objects) → IsShaped o → IsShaped (on_barrier row o b).1
on_barrier_shaped row b o shaped = record {
  all_mutexes = shaped.all_mutexes;
  all_semaphores = shaped.all_semaphores;
  all_barriers = length-at_cell uninitialised row o.barriers b ∙ shaped.all_barriers;
  all_conditions = shaped.all_conditions;
  all_rwlocks = shaped.all_rwlocks;
  named = shaped.named;
}

pub on_rwlock_shaped :
    (row : RwLock → Effect × RwLock) (i : ℕ) (o : Objects) → IsShaped o → IsShaped (on_rwlock row o i).1
on_rwlock_shaped row i o shaped = record {
  all_mutexes = shaped.all_mutexes;
  all_semaphores = shaped.all_semaphores;
  all_barriers = shaped.all_barriers;
  all_conditions = shaped.all_conditions;
  all_rwlocks = length-at_cell unheld row o.rwlocks i ∙ shaped.all_rwlocks;
  named = shaped.named;
}

-- a row on a condition and a mutex, if the condition then names a mutex that exists
pub on_pair_shaped :
    (row : Condition → Mutex → Effect × Condition × Mutex) (c m : ℕ) (o : Objects)
    → IsNamed (row (condition_at o c) (mutex_at o m)).1 → IsShaped o →
    IsShaped (on_pair row o c m).1
on_pair_shaped row c m o named shaped =
    let r = row (condition_at o c) (mutex_at o m) in
    record {
      all_mutexes = length-set o.mutexes m r.2 ∙ shaped.all_mutexes;
      all_semaphores = shaped.all_semaphores;
      all_barriers = shaped.all_barriers;
      all_conditions = length-set o.conditions c r.1 ∙ shaped.all_conditions;
      all_rwlocks = shaped.all_rwlocks;
      named = All-set IsNamed o.conditions c r.1 named shaped.named;
    }

-- a call that is refused if its arguments are out of range
pub checked_shaped :
    (b : Bool) (o : Objects) (r : Effect × Objects) → IsShaped o → (b ≡ true → IsShaped r.1)
    → IsShaped (checked b o r).1
checked_shaped true o r shaped done = done refl
checked_shaped false o r shaped done = shaped

-- the mutex of a condition exists
pub condition_named : (o : Objects) (c : ℕ) → IsShaped o → c < 64 → IsNamed (condition_at o c)
condition_named o c shaped c_in =
    All-get_or IsNamed o.conditions c unawaited (omega (arith, shaped.all_conditions)) shaped.named

pub cond_wait_named : (t m : ℕ) (c : Condition) (x : Mutex) → IsNamed c → m < 64 → IsNamed (cond_wait_row t m c x).1
cond_wait_named t m c x named m_in = grind arith

pub cond_wait_shaped :
    (t c m : ℕ) (o : Objects) → IsShaped o → nat_lt c 64 && nat_lt m 64 ≡ true
    → IsShaped (on_pair (cond_wait_row t m) o c m).1
cond_wait_shaped t c m o shaped in_range =
    let parts = and_parts (nat_lt c 64) (nat_lt m 64) in_range in
    on_pair_shaped (cond_wait_row t m) c m o
    (cond_wait_named t m (condition_at o c) (mutex_at o m) (condition_named o c shaped (ltb-true c 64 parts.0))
    (ltb-true m 64 parts.1)) shaped

-- a signal keeps the condition's mutex
pub first_leaves_mutex : (m : ℕ) (q : List ℕ) → (first_leaves m q).rest.mutex ≡ m
first_leaves_mutex m [] = refl
first_leaves_mutex m (u ∷ q) = refl

pub leave_shaped :
    (leaving : Condition → Leaving) (c : ℕ) (o : Objects) → ((x : Condition) → (leaving x).rest.mutex ≡ x.mutex)
    → IsShaped o → IsShaped (leave leaving o c).1
leave_shaped leaving c o stays shaped =
    checked_shaped (nat_lt c 64) o (on_pair (leave_row leaving) o c (condition_at o c).mutex) shaped
    (λ is. on_pair_shaped (leave_row leaving) c (condition_at o c).mutex o
    (omega (arith, stays (condition_at o c), condition_named o c shaped (ltb-true c 64 is))) shaped)

-- no call changes the shape of the objects
pub act_shaped :
    (readable : ℕ → ℕ → Bool) (o : Objects) (t : ℕ) (call : Call) → IsShaped o → IsShaped (act readable o t call).1
act_shaped readable o t (Exit code) shaped = shaped
act_shaped readable o t (Put p n) shaped = shaped
act_shaped readable o t (Create pc argument) shaped = on_threads_shaped (create_row pc argument) o shaped
act_shaped readable o t (ThreadExit v) shaped = on_threads_shaped (thread_exit_row t v) o shaped
act_shaped readable o t (Join u) shaped = on_threads_shaped (join_row t u) o shaped
act_shaped readable o t Yield shaped = shaped
act_shaped readable o t (Lock m) shaped = on_mutex_shaped (lock_row t) m o shaped
act_shaped readable o t (TryLock m) shaped = on_mutex_shaped (trylock_row t) m o shaped
act_shaped readable o t (Unlock m) shaped = on_mutex_shaped (unlock_row t) m o shaped
act_shaped readable o t (SemWait s) shaped = on_semaphore_shaped (sem_wait_row t) s o shaped
act_shaped readable o t (SemTryWait s) shaped = on_semaphore_shaped sem_trywait_row s o shaped
act_shaped readable o t (SemPost s) shaped = on_semaphore_shaped sem_post_row s o shaped
act_shaped readable o t (SemInit s n) shaped =
    checked_shaped (nat_le n largest_value) o (on_semaphore (sem_init_row n) o s) shaped
    (λ _. on_semaphore_shaped (sem_init_row n) s o shaped)
act_shaped readable o t (BarrierInit b n) shaped =
    checked_shaped (is_count n) o (on_barrier (barrier_init_row n) o b) shaped
    (λ _. on_barrier_shaped (barrier_init_row n) b o shaped)
act_shaped readable o t (BarrierWait b) shaped = on_barrier_shaped (barrier_wait_row t) b o shaped
act_shaped readable o t (CondWait c m) shaped =
    checked_shaped (nat_lt c 64 && nat_lt m 64) o (on_pair (cond_wait_row t m) o c m) shaped
    (cond_wait_shaped t c m o shaped)
act_shaped readable o t (Signal c) shaped =
    leave_shaped signal_leaving c o (λ x. first_leaves_mutex x.mutex x.queue) shaped
act_shaped readable o t (Broadcast c) shaped = leave_shaped broadcast_leaving c o (λ x. refl) shaped
act_shaped readable o t (RdLock r) shaped = on_rwlock_shaped (rdlock_row t) r o shaped
act_shaped readable o t (WrLock r) shaped = on_rwlock_shaped (wrlock_row t) r o shaped
act_shaped readable o t (RwUnlock r) shaped = on_rwlock_shaped (rwunlock_row t) r o shaped
act_shaped readable o t (TryWrLock r) shaped = on_rwlock_shaped (trywrlock_row t) r o shaped

-- the shape of the objects at the start
pub opening_shaped : IsShaped opening
unfolding all_unlocked all_unposted all_uninitialised all_unawaited all_unheld
opening_shaped = record {
  all_mutexes = length-replicate 64 unlocked;
  all_semaphores = length-replicate 64 unposted;
  all_barriers = length-replicate 64 uninitialised;
  all_conditions = length-replicate 64 unawaited;
  all_rwlocks = length-replicate 64 unheld;
  named = All-replicate IsNamed 64 unawaited (omega arith);
}
