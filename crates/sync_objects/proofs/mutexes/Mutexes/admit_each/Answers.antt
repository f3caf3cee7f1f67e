-- The mutex has room for threads that wait for none, and the table after they have come.
use Rattle.sync_objects.proofs.TableOfMutexes.{admit_each_at-done, admit_each_kept, admit_each-room}
use Rattle.sync_objects.proofs.mutexes.Mutexes.admit_each.Goals as goal

pub admit_each-requires : goal.admit_each-requires
admit_each-requires c =
    admit_each-room c.self.inside.cells _ c.args.m _ c.args.threads.now c.self.invariant c.requires.mutex
    c.threads-threads.ensures.same
    c.threads-threads.ensures.threads (rw c.self.view_is c.requires.once)

pub invariant_of-self : goal.invariant_of-self
invariant_of-self c =
    admit_each_kept c.self.inside.cells _ c.admit_each.result c.args.m c.args.threads.now
    (admit_each_at-done c.self.inside.cells _ c.args.m _ c.args.threads.now _ _ c.self.invariant c.requires.mutex
    c.threads-threads.ensures.same c.admit_each.ensures)
    c.self.invariant c.requires.mutex c.threads-threads.ensures.threads (rw c.self.view_is c.requires.once)
