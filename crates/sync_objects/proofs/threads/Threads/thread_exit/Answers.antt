-- The table after a thread has ended.
use Rattle.sync_objects.proofs.TableOfThreads.{thread_exit_kept}
use Rattle.sync_objects.proofs.threads.Threads.thread_exit.Goals as goal

pub invariant_of-self : goal.invariant_of-self
invariant_of-self c =
    thread_exit_kept c.self.inside.seats.items c.thread_exit_in.new.seats.items c.thread_exit_in.result c.args.t
    c.args.value c.thread_exit_in.ensures
    c.self.invariant (rw c.self.view_is c.requires.exists)
