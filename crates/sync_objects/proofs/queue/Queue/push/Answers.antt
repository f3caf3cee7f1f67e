-- The thread that comes is a thread.
use Rattle.std.proofs.Common.{subst, sym}
use Rattle.sync_objects.specs.Queue.{AreThreads}
use Rattle.sync_objects.proofs.QueueThreads.{pushed_are_threads}
use Rattle.sync_objects.proofs.queue.Queue.push.Goals as goal

pub invariant_of-self : goal.invariant_of-self
invariant_of-self c =
    subst AreThreads (sym c.push.ensures.items)
    (pushed_are_threads c.args.thread c.self.inside.threads.items c.threads_are_few.ensures c.self.invariant)
