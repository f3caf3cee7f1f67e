-- The threads that came so far and those still to come are all.
use Rattle.std.proofs.Common.{◌≡◌, ◌+◌, ◌≤◌, ◌++◌, length, drop}
use Rattle.guest_call.specs.Conditions.{admit_each}
use Rattle.sync_objects.proofs.mutexes.Cell.admit_each.Given as goal

abbrev pub invariant-loop-thread : goal.invariant-loop-thread
invariant-loop-thread l = record {
  whole : (
    l.admitted ++ (admit_each (drop l.thread-index l.threads) l.self).0,
    (admit_each (drop l.thread-index l.threads)
        l.self).1,
  ) ≡ admit_each l.threads l.initial.self;
  room : length l.self.queue + length l.threads ≤ 32 + l.thread-index;
  few : length l.admitted ≤ l.thread-index;
}
