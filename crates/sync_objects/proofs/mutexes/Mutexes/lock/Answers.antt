-- The row at the mutex, whose queue has room for the caller, and the table after it.
use Rattle.std.proofs.Common.{rules, arith}
use Rattle.guest_call.specs.Mutexes.{unlocked, mutex_queue, lock_row}
use Rattle.guest_call.proofs.Rows.{lock_fair}
use Rattle.sync_objects.proofs.TableKept.{row_kept, queue-room}
use Rattle.sync_objects.proofs.mutexes.Mutexes.lock.Goals as goal

pub returns : goal.returns
returns c =
    rw (← c.self.view_is) (c.at_cell.ensures unlocked (lock_row c.args.t)
    (λ x y e k. search (rules, k.met, k.shows, k.leaves)))

pub invariant_of-self : goal.invariant_of-self
invariant_of-self c =
    row_kept mutex_queue unlocked (lock_row c.args.t) c.self.inside.cells c.at_cell.new.cells c.at_cell.result c.args.m
    c.args.t (lock_fair c.args.t)
    (c.at_cell.ensures unlocked (lock_row c.args.t) (λ x y e k. search (rules, k.met, k.shows, k.leaves)))
    c.self.invariant c.threads_are_few.ensures (rw c.self.view_is c.requires.free)

pub at_cell-requires : goal.at_cell-requires
at_cell-requires c = (
  omega arith,
  λ free there p is.
      let room =
      queue-room mutex_queue c.self.inside.cells c.args.m c.args.t free c.self.invariant c.threads_are_few.ensures
      (rw c.self.view_is c.requires.free) there in
      search (rules, is, room),
)
