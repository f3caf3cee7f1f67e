-- The threads that were admitted so far and those still to be admitted are all.
use Rattle.std.proofs.Common.{◌≡◌, ◌+◌, ◌≤◌, ◌++◌, length}
use Rattle.guest_call.specs.RwLocks.{first_readers, from_first_writer, joined_by_each}
use Rattle.sync_objects.proofs.rwlocks.Cell.admit_readers.Given as goal

abbrev pub invariant-loop-reader : goal.invariant-loop-reader
invariant-loop-reader l = record {
  first : l.admitted ++ first_readers l.self.queue ≡ first_readers l.initial.self.queue;
  rest : from_first_writer l.self.queue ≡ from_first_writer l.initial.self.queue;
  joined :
      joined_by_each (first_readers l.self.queue) l.self.readers
      ≡ joined_by_each (first_readers l.initial.self.queue) l.initial.self.readers;
  writer : l.self.writer ≡ l.initial.self.writer;
  room : length l.admitted + length l.self.queue ≤ 32;
}

abbrev pub decreases-loop-reader : goal.decreases-loop-reader
decreases-loop-reader l = length l.self.queue
