-- Threads that left a condition come back to its mutex.
use Rattle.std.specs.Prelude.{ℕ, List, slice_index_or, slice_set}
use Rattle.guest_call.specs.Mutexes.{Mutex, unlocked}
use Rattle.guest_call.specs.Conditions.{admit_each}

-- these threads come, one after the other, to the mutex of number m of a table: the one that owns it now, if any, and
-- the table (POSIX.1-2017, pthread_cond_broadcast)
abbrev pub admit_each_at : List Mutex → ℕ → List ℕ → List ℕ × List Mutex
admit_each_at cells m threads =
    let r = admit_each threads (slice_index_or cells m unlocked) in (r.0, slice_set cells m r.1)
