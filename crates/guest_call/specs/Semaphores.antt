-- Semaphores that count, and hand a post over to the thread that has waited longest.
use Rattle.std.specs.Prelude.{ℕ, ◌+◌, ◌-◌, ◌==◌, nat_lt, nat_le, List, [], ◌∷◌, ◌++◌, length, None, if◌then◌else◌}
use Rattle.guest_call.specs.Answers.{answer_eagain, answer_ebusy, answer_eoverflow}
use Rattle.guest_call.specs.Effect.{Effect, Returns, answers, blocks, wakes}
use Rattle.guest_call.specs.Tables.{at_cell, checked}

-- the value of a semaphore, and the threads that wait for a post, the first to come first (POSIX.1-2017, sem_wait)
pub record Semaphore : Type 0 where
  pub value : ℕ
  pub queue : List ℕ

-- a semaphore as it is at the start: its value is 0, and no thread waits
abbrev pub unposted : Semaphore
unposted = record { value = 0; queue = [] }

-- the largest value of a semaphore, SEM_VALUE_MAX (POSIX.1-2017, <limits.h>; the number is Linux's)
abbrev pub largest_value : ℕ
largest_value = 2147483647

-- the threads that wait for a semaphore (POSIX.1-2017, sem_wait)
abbrev pub semaphore_queue : Semaphore → List ℕ
semaphore_queue c = c.queue

-- the semaphore with another value (POSIX.1-2017, sem_post)
abbrev pub valued : ℕ → Semaphore → Semaphore
valued n c = record { value = n; queue = c.queue }

-- sem_wait, called by t: a value above 0 is taken down by one; else t waits at the end of the queue (POSIX.1-2017,
-- sem_wait)
abbrev pub sem_wait_row : ℕ → Semaphore → Effect × Semaphore
sem_wait_row t c =
    if nat_lt 0 c.value then (answers 0, valued (c.value - 1) c)
    else (blocks, record { value = c.value; queue = c.queue ++ t ∷ [] })

-- sem_trywait: a value above 0 is taken down by one; else it is refused (POSIX.1-2017, sem_trywait)
abbrev pub sem_trywait_row : Semaphore → Effect × Semaphore
sem_trywait_row c = if nat_lt 0 c.value then (answers 0, valued (c.value - 1) c) else (answers answer_eagain, c)

-- a post at a value for which these wait: the first returns, and the value stays; with no thread waiting it goes up by
-- one, unless it is the largest (POSIX.1-2017, sem_post), first in, first out
abbrev pub posted : ℕ → List ℕ → Effect × Semaphore
posted n [] =
    if n == largest_value then (answers answer_eoverflow, record { value = n; queue = [] })
    else (answers 0, record { value = n + 1; queue = [] })
posted n (u ∷ rest) = (wakes (Returns 0 None) (u ∷ []), record { value = n; queue = rest })

-- sem_post (POSIX.1-2017, sem_post)
abbrev pub sem_post_row : Semaphore → Effect × Semaphore
sem_post_row c = posted c.value c.queue

-- sem_init with a value in range: refused while a thread waits; else the value is n (POSIX.1-2017, sem_init)
abbrev pub sem_init_row : ℕ → Semaphore → Effect × Semaphore
sem_init_row n c = if length c.queue == 0 then (answers 0, valued n c) else (answers answer_ebusy, c)

-- sem_init of semaphore s in a table: a value beyond the largest is refused (POSIX.1-2017, sem_init)
abbrev pub sem_init_at : ℕ → List Semaphore → ℕ → Effect × List Semaphore
sem_init_at n cells s = checked (nat_le n largest_value) cells (at_cell unposted (sem_init_row n) cells s)
