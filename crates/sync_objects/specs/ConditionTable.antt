-- The table of conditions, and the threads that start to wait in it.
use Rattle.std.specs.Prelude.{ℕ, ◌<◌, ◌==◌, ◌&&◌, Bool, true, false, not, List, length, slice_index_or, slice_set, Option, Some, None, All, if◌then◌else◌}
use Rattle.guest_call.specs.Tables.{IsTable}
use Rattle.guest_call.specs.Conditions.{Condition, unawaited, condition_queue, awaited_by}

-- 64 conditions, each with one of 64 mutexes; only threads below 32 wait, and each for at most one
pub record IsConditionTable (cells : List Condition) : Type 0 where
  pub table : IsTable condition_queue cells
  pub named : All (λ (c : Condition). c.mutex < 64) cells

-- the owner t of mutex m comes to wait: it is refused if others wait with another mutex; else it waits at the end of
-- the queue. Whether it waits, and the condition (POSIX.1-2017, pthread_cond_wait)
abbrev pub wait_row : ℕ → ℕ → Condition → Bool × Condition
wait_row t m c = if not (length c.queue == 0) && not (c.mutex == m) then (false, c) else (true, awaited_by t m c)

-- the same at the condition of number c of a table (POSIX.1-2017, pthread_cond_wait)
abbrev pub wait_at : ℕ → ℕ → List Condition → ℕ → Bool × List Condition
wait_at t m cells c = let r = wait_row t m (slice_index_or cells c unawaited) in (r.0, slice_set cells c r.1)

-- the mutex with which threads wait for a condition, if any wait (POSIX.1-2017, pthread_cond_wait)
abbrev pub awaited_with : Condition → Option ℕ
awaited_with c = if length c.queue == 0 then None else Some c.mutex
