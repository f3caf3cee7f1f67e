-- The threads that leave a condition, and the mutex to which they come.
use Rattle.std.specs.Prelude.{ℕ, List, Option}
use Rattle.guest_call.specs.Conditions.{Condition, unawaited}
use Rattle.guest_call.specs.Conditions as rows
use Rattle.sync_objects.specs.Rows.{row_at}
use Rattle.sync_objects.specs.declared.conditions.Leaving.{Leaving}

-- the threads that leave a condition, with the mutex to which they come, and the condition without them (POSIX.1-2017,
-- pthread_cond_broadcast)
abbrev pub leaving_of : (Condition → rows.Leaving) → Condition → Leaving × Condition
leaving_of leaving c = (record { mutex = c.mutex; threads = (leaving c).threads }, (leaving c).rest)

-- the same at the condition of number c of a table; none if c is above 63 (POSIX.1-2017, pthread_cond_broadcast)
abbrev pub leaving_at : (Condition → rows.Leaving) → List Condition → ℕ → Option Leaving × List Condition
leaving_at leaving cells c = row_at unawaited (leaving_of leaving) cells c
