-- Mutexes that check for errors, each handed over to the thread that has waited longest.
use Rattle.std.specs.Prelude.{ℕ, ◌==◌, Bool, false, List, [], ◌∷◌, ◌++◌, Option, Some, None, is_none, if◌then◌else◌}
use Rattle.guest_call.specs.Answers.{answer_eperm, answer_ebusy, answer_edeadlk}
use Rattle.guest_call.specs.Effect.{Effect, Returns, answers, blocks, wakes}

-- the owner of a mutex, if there is one, and the threads that wait for it, the first to come first (POSIX.1-2017,
-- pthread_mutex_lock)
pub record Mutex : Type 0 where
  pub owner : Option ℕ
  pub queue : List ℕ

-- a mutex as it is at the start: free, with no thread waiting (POSIX.1-2017, pthread_mutex_init)
abbrev pub unlocked : Mutex
unlocked = record { owner = None; queue = [] }

-- the threads that wait for a mutex (POSIX.1-2017, pthread_mutex_lock)
abbrev pub mutex_queue : Mutex → List ℕ
mutex_queue c = c.queue

-- whether thread t is the owner (POSIX.1-2017, pthread_mutex_lock, "owner")
abbrev pub owns : Option ℕ → ℕ → Bool
owns None t = false
owns (Some u) t = u == t

-- the mutex with t as its owner (POSIX.1-2017, pthread_mutex_lock)
abbrev pub owned_by : ℕ → Mutex → Mutex
owned_by t c = record { owner = Some t; queue = c.queue }

-- the mutex with t at the end of its queue: first in, first out
abbrev pub waited_for : ℕ → Mutex → Mutex
waited_for t c = record { owner = c.owner; queue = c.queue ++ t ∷ [] }

-- the thread that gets the mutex when its owner gives it up, which is the first that waits, if any, and the mutex after
-- that
abbrev pub handed_over : List ℕ → List ℕ × Mutex
handed_over [] = ([], unlocked)
handed_over (u ∷ rest) = (u ∷ [], record { owner = Some u; queue = rest })

-- lock, called by t: t becomes the owner of a free mutex; its own is refused; else it waits (POSIX.1-2017,
-- pthread_mutex_lock)
abbrev pub lock_row : ℕ → Mutex → Effect × Mutex
lock_row t c =
    if is_none c.owner then (answers 0, owned_by t c)
    else if owns c.owner t then (answers answer_edeadlk, c)
    else (blocks, waited_for t c)

-- trylock, called by t: t becomes the owner of a free mutex; any other is refused (POSIX.1-2017, pthread_mutex_trylock)
abbrev pub trylock_row : ℕ → Mutex → Effect × Mutex
trylock_row t c = if is_none c.owner then (answers 0, owned_by t c) else (answers answer_ebusy, c)

-- unlock, called by t: it is refused if t isn't the owner; else the mutex is handed over (POSIX.1-2017,
-- pthread_mutex_unlock)
abbrev pub unlock_row : ℕ → Mutex → Effect × Mutex
unlock_row t c =
    if owns c.owner t
    then (wakes (Returns 0 None) (handed_over c.queue).0, (handed_over c.queue).1)
    else (answers answer_eperm, c)
