-- The row at the lock, whose queue has room for the caller, and the table after it.
use Rattle.std.proofs.Common.{rules, arith}
use Rattle.guest_call.specs.RwLocks.{unheld, rwlock_queue, rdlock_row}
use Rattle.guest_call.proofs.Rows.{rdlock_fair}
use Rattle.sync_objects.proofs.TableKept.{row_kept}
use Rattle.sync_objects.proofs.QueueRoom.{waiters-room}
use Rattle.sync_objects.proofs.rwlocks.RwLocks.rdlock.Goals as goal

pub returns : goal.returns
returns c =
    rw (← c.self.view_is) (c.at_cell.ensures unheld (rdlock_row c.args.t)
    (λ x y e k. search (rules, k.met, k.shows, k.leaves)))

pub invariant_of-self : goal.invariant_of-self
invariant_of-self c =
    row_kept rwlock_queue unheld (rdlock_row c.args.t) c.self.inside.cells c.at_cell.new.cells c.at_cell.result c.args.r
    c.args.t (rdlock_fair c.args.t)
    (c.at_cell.ensures unheld (rdlock_row c.args.t) (λ x y e k. search (rules, k.met, k.shows, k.leaves)))
    c.self.invariant c.threads_are_few.ensures (rw c.self.view_is c.requires.free)

pub at_cell-requires : goal.at_cell-requires
at_cell-requires c = (
  omega arith,
  λ free there p is.
      let room =
      waiters-room c.self.inside.cells c.args.r c.args.t free c.self.invariant c.threads_are_few.ensures
      (rw c.self.view_is c.requires.free) there in
      search (rules, is, room),
)
