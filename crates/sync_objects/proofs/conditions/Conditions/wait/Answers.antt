-- The condition has room for a thread that waits for none, and the table after it has come.
use Rattle.guest_call.specs.Conditions.{condition_queue}
use Rattle.sync_objects.proofs.TableKept.{queue-room}
use Rattle.sync_objects.proofs.TableOfConditions.{wait_kept, wait_at-done}
use Rattle.sync_objects.proofs.conditions.Conditions.wait.Goals as goal

pub wait-requires : goal.wait-requires
wait-requires c =
    queue-room condition_queue c.self.inside.cells c.args.c c.args.t _ c.self.invariant.table c.threads_are_few.ensures
    (rw c.self.view_is c.requires.free) c.requires.condition

pub invariant_of-self : goal.invariant_of-self
invariant_of-self c =
    wait_kept c.self.inside.cells _ c.wait.result c.args.t c.args.c c.args.m
    (wait_at-done c.self.inside.cells _ c.args.t c.args.c c.args.m c.wait.result _ c.self.invariant
    c.requires.condition c.wait.ensures)
    c.self.invariant c.threads_are_few.ensures (rw c.self.view_is c.requires.free) c.requires.condition c.requires.mutex
