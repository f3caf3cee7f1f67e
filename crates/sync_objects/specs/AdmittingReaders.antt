-- One reader after the other gets a lock that was unlocked.
use Rattle.std.specs.Prelude.{ℕ, Bool, true, List, [], ◌∷◌, Option, Some, None, slice_set, if◌then◌else◌}
use Rattle.guest_call.specs.RwLocks.{Waiter, RwLock}

-- the first thread that waits for a lock with this writer, these readers and this queue becomes a reader, if it waits
-- to read: this thread, if so, and the lock (POSIX.1-2017, pthread_rwlock_unlock)
abbrev pub first_admitted : Option ℕ → List Bool → List Waiter → Option ℕ × RwLock
first_admitted writer readers [] = (None, record { writer = writer; readers = readers; queue = [] })
first_admitted writer readers (w ∷ rest) =
    if w.writes then (None, record { writer = writer; readers = readers; queue = w ∷ rest })
    else (Some w.thread, record { writer = writer; readers = slice_set readers w.thread true; queue = rest })
