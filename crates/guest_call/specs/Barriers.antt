-- Barriers, at which threads wait until as many have come as the barrier counts.
use Rattle.std.specs.Prelude.{ℕ, ◌+◌, ◌==◌, ◌&&◌, Bool, nat_le, List, [], ◌∷◌, ◌++◌, length, Option, Some, None, if◌then◌else◌}
use Rattle.guest_call.specs.declared.thread_number.TheConstants.{THREADS}
use Rattle.guest_call.specs.Answers.{answer_ebusy, answer_einval}
use Rattle.guest_call.specs.Effect.{Effect, Returns, answers, blocks, wakes}
use Rattle.guest_call.specs.Tables.{at_cell, checked}

-- how many threads a barrier releases together, once it is initialised, and the threads that wait at it, the first to
-- come first (POSIX.1-2017, pthread_barrier_wait)
pub record Barrier : Type 0 where
  pub count : Option ℕ
  pub queue : List ℕ

-- a barrier as it is at the start: not initialised, with no thread waiting
abbrev pub uninitialised : Barrier
uninitialised = record { count = None; queue = [] }

-- the threads that wait at a barrier (POSIX.1-2017, pthread_barrier_wait)
abbrev pub barrier_queue : Barrier → List ℕ
barrier_queue c = c.queue

-- whether a barrier may count so many: at least one, and no more than there can be threads (POSIX.1-2017,
-- pthread_barrier_init)
abbrev pub is_count : ℕ → Bool
is_count n = nat_le 1 n && nat_le n THREADS

-- barrier_init with a count in range: refused while a thread waits; else the count is n (POSIX.1-2017,
-- pthread_barrier_init)
abbrev pub barrier_init_row : ℕ → Barrier → Effect × Barrier
barrier_init_row n c =
    if length c.queue == 0 then (answers 0, record { count = Some n; queue = [] }) else (answers answer_ebusy, c)

-- barrier_init of barrier b in a table: another count is refused (POSIX.1-2017, pthread_barrier_init)
abbrev pub barrier_init_at : ℕ → List Barrier → ℕ → Effect × List Barrier
barrier_init_at n cells b = checked (is_count n) cells (at_cell uninitialised (barrier_init_row n) cells b)

-- t comes to a barrier at which these wait: at one that isn't initialised it is refused; as the last of n it releases
-- all, and gets 1 (PTHREAD_BARRIER_SERIAL_THREAD), the others 0; else it waits (POSIX.1-2017, pthread_barrier_wait)
abbrev pub comes : ℕ → Option ℕ → List ℕ → Effect × Barrier
comes t None queue = (answers answer_einval, record { count = None; queue = queue })
comes t (Some n) queue =
    if length queue + 1 == n then (wakes (Returns 1 None) queue, record { count = Some n; queue = [] })
    else (blocks, record { count = Some n; queue = queue ++ t ∷ [] })

-- barrier_wait, called by t (POSIX.1-2017, pthread_barrier_wait)
abbrev pub barrier_wait_row : ℕ → Barrier → Effect × Barrier
barrier_wait_row t c = comes t c.count c.queue
