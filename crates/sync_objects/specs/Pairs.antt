-- The tables taken together, and rows on a condition and a mutex at once.
use Rattle.std.specs.Prelude.{ℕ, ◌&&◌, ◌==◌, not, nat_lt, List, [], ◌∷◌, length, slice_index_or, slice_set, if◌then◌else◌}
use Rattle.guest_call.specs.Effect.{Effect}
use Rattle.guest_call.specs.Tables.{checked}
use Rattle.guest_call.specs.Mutexes.{Mutex, unlocked}
use Rattle.guest_call.specs.Conditions.{Condition, Leaving, unawaited, cond_wait_row, leave_row}
use Rattle.guest_call.specs.declared.Object.{Object}
use Rattle.guest_call.specs.declared.Object.TheVariants as object
use Rattle.guest_call.specs.Objects.{Objects, one_of}
use Rattle.sync_objects.specs.declared.Tables.{Tables}

-- the objects whose tables these are
abbrev pub objects_of : Tables → Objects
objects_of t =
    record {
      threads = t.threads.value;
      mutexes = t.mutexes.value;
      semaphores = t.semaphores.value;
      barriers = t.barriers.value;
      conditions = t.conditions.value;
      rwlocks = t.rwlocks.value;
    }

-- a row done at the condition of number c and the mutex of number m
abbrev pub at_pair :
    (Condition → Mutex → Effect × Condition × Mutex) → List Condition → List Mutex → ℕ → ℕ
    → Effect × (List Condition × List Mutex)
at_pair row conditions mutexes c m =
    let r = row (slice_index_or conditions c unawaited) (slice_index_or mutexes m unlocked) in
    (r.0, (slice_set conditions c r.1, slice_set mutexes m r.2))

-- cond_wait, called by t; numbers above 63 are refused (POSIX.1-2017, pthread_cond_wait)
abbrev pub cond_wait_at : ℕ → List Condition → List Mutex → ℕ → ℕ → Effect × (List Condition × List Mutex)
cond_wait_at t conditions mutexes c m =
    checked (nat_lt c 64 && nat_lt m 64) (conditions, mutexes) (at_pair (cond_wait_row t m) conditions mutexes c m)

-- the threads that leave the condition of number c come to its mutex; a number above 63 is refused (POSIX.1-2017,
-- pthread_cond_broadcast)
abbrev pub leave_at : (Condition → Leaving) → List Condition → List Mutex → ℕ → Effect × (List Condition × List Mutex)
leave_at leaving conditions mutexes c =
    checked (nat_lt c 64) (conditions, mutexes)
    (at_pair (leave_row leaving) conditions mutexes c (slice_index_or conditions c unawaited).mutex)

-- the objects on which a signal or a broadcast acts: the condition, and its mutex if a thread waits; none if c is above
-- 63
abbrev pub leave_objects_in : List Condition → ℕ → List Object
leave_objects_in conditions c =
    if nat_lt c 64
    then object.Condition c ∷ one_of (not (length (slice_index_or conditions c unawaited).queue == 0))
    (object.Mutex (slice_index_or conditions c unawaited).mutex)
    else []
