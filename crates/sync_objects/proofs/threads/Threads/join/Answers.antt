-- The table after a join.
use Rattle.sync_objects.proofs.TableOfThreads.{join_kept}
use Rattle.sync_objects.proofs.threads.Threads.join.Goals as goal

pub invariant_of-self : goal.invariant_of-self
invariant_of-self c =
    join_kept c.self.inside.seats.items c.join_in.new.seats.items c.join_in.result c.args.t c.args.u c.join_in.ensures
    c.self.invariant (rw c.self.view_is c.requires.exists) (rw c.self.view_is c.requires.free)
