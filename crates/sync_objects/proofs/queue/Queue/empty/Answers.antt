-- No thread is in the new queue.
use Rattle.std.proofs.Common.{subst, sym}
use Rattle.sync_objects.specs.Queue.{AreThreads}
use Rattle.sync_objects.proofs.QueueThreads.{nobody_are_threads}
use Rattle.sync_objects.proofs.queue.Queue.empty.Goals as goal

pub invariant_of-result : goal.invariant_of-result
invariant_of-result c = subst AreThreads (sym c.new.ensures) nobody_are_threads
