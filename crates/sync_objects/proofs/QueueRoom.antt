-- The queue of each lock has room.
use Rattle.std.proofs.Common.{◌≡◌, ℕ, ◌<◌, List, length, slice_index_or}
use Rattle.std.proofs.lemmas.List.{length-map}
use Rattle.guest_call.specs.Queues.{waits}
use Rattle.guest_call.specs.Tables.{IsTable}
use Rattle.guest_call.specs.RwLocks.{RwLock, rwlock_queue}
use Rattle.sync_objects.proofs.TableKept.{queue-room}

-- for a thread that waits nowhere in the table
pub waiters-room : (cells : List RwLock) (i t : ℕ) (free : RwLock) →
    IsTable rwlock_queue cells → t < 32 → waits rwlock_queue cells t ≡ 0 → i < 64
    → length (slice_index_or cells i free).queue < 32
waiters-room cells i t free table lt idle there =
    simp length-map at (queue-room rwlock_queue cells i t free table lt idle there)
