-- What the table of threads keeps.
use Rattle.std.specs.Prelude.{ℕ, ◌≡◌, ◌≤◌, List, length}
use Rattle.guest_call.specs.Queues.{waits}
use Rattle.guest_call.specs.Threads.{Member, member_queue}

-- one thread at least and 32 at most; only threads of the table wait to join one, and each waits for at most one
pub record IsThreadTable (members : List Member) : Type 0 where
  pub some_thread : 1 ≤ length members
  pub few_threads : length members ≤ 32
  pub once : (t : ℕ) → waits member_queue members t ≤ 1
  pub known : (t : ℕ) → length members ≤ t → waits member_queue members t ≡ 0
