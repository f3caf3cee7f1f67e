-- Conditions, each with the mutex that its waiters gave up and get back.
use Rattle.std.specs.Prelude.{ℕ, ◌==◌, ◌&&◌, not, is_none, List, [], ◌∷◌, ◌++◌, length, None, if◌then◌else◌}
use Rattle.guest_call.specs.Answers.{answer_eperm, answer_einval}
use Rattle.guest_call.specs.Effect.{Effect, Returns, Blocks, answers, wakes}
use Rattle.guest_call.specs.Mutexes.{Mutex, owns, owned_by, waited_for, handed_over}

-- the mutex with which threads wait for a condition, or last did, and the threads that wait, the first to come first
-- (POSIX.1-2017, pthread_cond_wait)
pub record Condition : Type 0 where
  pub mutex : ℕ
  pub queue : List ℕ

-- a condition as it is at the start: no thread waits for it (POSIX.1-2017, pthread_cond_init)
abbrev pub unawaited : Condition
unawaited = record { mutex = 0; queue = [] }

-- the threads that wait for a condition (POSIX.1-2017, pthread_cond_wait)
abbrev pub condition_queue : Condition → List ℕ
condition_queue c = c.queue

-- t waits with mutex m, at the end of the queue (POSIX.1-2017, pthread_cond_wait)
abbrev pub awaited_by : ℕ → ℕ → Condition → Condition
awaited_by t m c = record { mutex = m; queue = c.queue ++ t ∷ [] }

-- cond_wait with mutex m, called by t: it is refused if t isn't the owner, or if threads wait with another mutex; else
-- t waits, and the mutex is handed over as in unlock (POSIX.1-2017, pthread_cond_wait)
abbrev pub cond_wait_row : ℕ → ℕ → Condition → Mutex → Effect × Condition × Mutex
cond_wait_row t m c x =
    if not (owns x.owner t) then (answers answer_eperm, c, x)
    else if not (length c.queue == 0) && not (c.mutex == m) then (answers answer_einval, c, x)
    else (wakes Blocks (handed_over x.queue).0, awaited_by t m c, (handed_over x.queue).1)

-- threads that leave a condition, and the condition without them (POSIX.1-2017, pthread_cond_signal)
pub record Leaving : Type 0 where
  pub threads : List ℕ
  pub rest : Condition

-- a signal lets the first of a queue leave, if there is one (POSIX.1-2017, pthread_cond_signal), first in, first out
abbrev pub first_leaves : ℕ → List ℕ → Leaving
first_leaves m [] = record { threads = []; rest = record { mutex = m; queue = [] } }
first_leaves m (u ∷ rest) = record { threads = u ∷ []; rest = record { mutex = m; queue = rest } }

-- the thread that leaves by a signal, if there is one, and the condition without it (POSIX.1-2017, pthread_cond_signal)
abbrev pub signal_leaving : Condition → Leaving
signal_leaving c = first_leaves c.mutex c.queue

-- all leave by a broadcast (POSIX.1-2017, pthread_cond_broadcast)
abbrev pub broadcast_leaving : Condition → Leaving
broadcast_leaving c = record { threads = c.queue; rest = record { mutex = c.mutex; queue = [] } }

-- a thread that left a condition comes to its mutex: it becomes the owner of a free one, and its call returns; else it
-- waits at the end of the queue. The result is the thread, if it has the mutex now, and the mutex (POSIX.1-2017,
-- pthread_cond_signal)
abbrev pub admit : ℕ → Mutex → List ℕ × Mutex
admit u x = if is_none x.owner then (u ∷ [], owned_by u x) else ([], waited_for u x)

-- threads that left a condition come to its mutex, one after the other (POSIX.1-2017, pthread_cond_broadcast)
abbrev pub admit_each : List ℕ → Mutex → List ℕ × Mutex
admit_each [] x = ([], x)
admit_each (u ∷ rest) x = ((admit u x).0 ++ (admit_each rest (admit u x).1).0, (admit_each rest (admit u x).1).1)

-- signal and broadcast: the caller gets 0, and each thread that leaves comes to the mutex (POSIX.1-2017,
-- pthread_cond_broadcast)
abbrev pub leave_row : (Condition → Leaving) → Condition → Mutex → Effect × Condition × Mutex
leave_row leaving c x = (
  wakes (Returns 0 None) (admit_each (leaving c).threads x).0,
  (leaving c).rest,
  (admit_each (leaving c).threads x).1,
)
