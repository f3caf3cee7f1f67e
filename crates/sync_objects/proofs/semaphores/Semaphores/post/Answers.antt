-- The row at the object, and the table after it.
use Rattle.std.proofs.Common.{rules, arith}
use Rattle.guest_call.specs.Semaphores.{unposted, semaphore_queue, sem_post_row}
use Rattle.guest_call.proofs.Rows.{sem_post_fair}
use Rattle.sync_objects.proofs.TableKept.{still_kept}
use Rattle.sync_objects.proofs.semaphores.Semaphores.post.Goals as goal

pub returns : goal.returns
returns c =
    rw (← c.self.view_is) (c.at_cell.ensures unposted sem_post_row
    (λ x y e k. search (rules, k.met, k.shows, k.leaves)))

pub invariant_of-self : goal.invariant_of-self
invariant_of-self c =
    still_kept semaphore_queue unposted sem_post_row c.self.inside.cells c.at_cell.new.cells c.at_cell.result c.args.s
    c.args._t (sem_post_fair c.args._t)
    (λ x. grind arith) (c.at_cell.ensures unposted sem_post_row (λ x y e k. search (rules, k.met, k.shows, k.leaves)))
    c.self.invariant
