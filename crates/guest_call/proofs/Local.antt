-- Each call reads and changes nothing but the objects on which it acts.
use Rattle.std.proofs.Common.{ℕ, Bool, [], nat_lt, nat_le}
use Rattle.guest_call.specs.declared.Call.{Call}
use Rattle.guest_call.specs.declared.Call.TheVariants.{Exit, Put, Create, ThreadExit, Join, Yield, Lock, TryLock, Unlock, SemWait, SemTryWait, SemPost, SemInit, BarrierInit, BarrierWait, CondWait, Signal, Broadcast, RdLock, WrLock, RwUnlock, TryWrLock}
use Rattle.guest_call.specs.declared.Object.TheVariants.{Output, Semaphore as SemaphoreOf, Barrier as BarrierOf}
use Rattle.guest_call.specs.Effect.{answers, exits}
use Rattle.guest_call.specs.Mutexes.{lock_row, trylock_row, unlock_row}
use Rattle.guest_call.specs.Semaphores.{largest_value, sem_wait_row, sem_trywait_row, sem_post_row, sem_init_row}
use Rattle.guest_call.specs.Barriers.{is_count, barrier_init_row, barrier_wait_row}
use Rattle.guest_call.specs.Conditions.{signal_leaving, broadcast_leaving}
use Rattle.guest_call.specs.RwLocks.{rdlock_row, wrlock_row, rwunlock_row, trywrlock_row}
use Rattle.guest_call.specs.Threads.{thread_exit_row, join_row}
use Rattle.guest_call.specs.Objects.{Objects, on_semaphore, on_barrier, put_answer, appends, one_of, act, acts_on, IsKept}
use Rattle.guest_call.specs.Locality.{IsLocalBy}
use Rattle.guest_call.proofs.Locality.{nothing_local, checked_local}
use Rattle.guest_call.proofs.ThreadsLocal.{on_threads_local, create_local}
use Rattle.guest_call.proofs.MutexLocal.{on_mutex_local}
use Rattle.guest_call.proofs.SemaphoreLocal.{on_semaphore_local}
use Rattle.guest_call.proofs.BarrierLocal.{on_barrier_local}
use Rattle.guest_call.proofs.RwLockLocal.{on_rwlock_local}
use Rattle.guest_call.proofs.PairLocal.{cond_wait_local, leave_local, signal_quiet, broadcast_quiet}

-- a call is local to the objects on which it acts
pub act_local :
    (readable : ℕ → ℕ → Bool) (o : Objects) (t : ℕ) (call : Call) → IsKept o
    → IsLocalBy (λ x. act readable x t call) (λ x. acts_on readable x call) o
act_local readable o t (Exit code) kept = nothing_local (exits code) [] o
act_local readable o t (Put p n) kept =
    nothing_local (answers (put_answer readable p n)) (one_of (appends readable p n) Output) o
act_local readable o t (Create pc argument) kept = create_local pc argument o kept
act_local readable o t (ThreadExit v) kept = on_threads_local (thread_exit_row t v) o kept
act_local readable o t (Join u) kept = on_threads_local (join_row t u) o kept
act_local readable o t Yield kept = nothing_local (answers 0) [] o
act_local readable o t (Lock m) kept = on_mutex_local (lock_row t) m o kept
act_local readable o t (TryLock m) kept = on_mutex_local (trylock_row t) m o kept
act_local readable o t (Unlock m) kept = on_mutex_local (unlock_row t) m o kept
act_local readable o t (SemWait s) kept = on_semaphore_local (sem_wait_row t) s o kept
act_local readable o t (SemTryWait s) kept = on_semaphore_local sem_trywait_row s o kept
act_local readable o t (SemPost s) kept = on_semaphore_local sem_post_row s o kept
act_local readable o t (SemInit s n) kept =
    checked_local (nat_lt s 64) (nat_le n largest_value) (λ x. on_semaphore (sem_init_row n) x s) (SemaphoreOf s) o
    (on_semaphore_local (sem_init_row n) s o kept)
act_local readable o t (BarrierInit b n) kept =
    checked_local (nat_lt b 64) (is_count n) (λ x. on_barrier (barrier_init_row n) x b) (BarrierOf b) o
    (on_barrier_local (barrier_init_row n) b o kept)
act_local readable o t (BarrierWait b) kept = on_barrier_local (barrier_wait_row t) b o kept
act_local readable o t (CondWait c m) kept = cond_wait_local t c m o kept
act_local readable o t (Signal c) kept = leave_local signal_leaving c o signal_quiet kept
act_local readable o t (Broadcast c) kept = leave_local broadcast_leaving c o broadcast_quiet kept
act_local readable o t (RdLock r) kept = on_rwlock_local (rdlock_row t) r o kept
act_local readable o t (WrLock r) kept = on_rwlock_local (wrlock_row t) r o kept
act_local readable o t (RwUnlock r) kept = on_rwlock_local (rwunlock_row t) r o kept
act_local readable o t (TryWrLock r) kept = on_rwlock_local (trywrlock_row t) r o kept
