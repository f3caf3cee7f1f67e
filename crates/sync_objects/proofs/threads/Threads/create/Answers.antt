-- The table after a thread was created.
use Rattle.sync_objects.proofs.TableOfThreads.{create_kept}
use Rattle.sync_objects.proofs.threads.Threads.create.Goals as goal

pub invariant_of-self : goal.invariant_of-self
invariant_of-self c =
    create_kept c.self.inside.seats.items c.create_in.new.seats.items c.create_in.result c.args._t c.args.pc
    c.args.argument c.create_in.ensures c.self.invariant
