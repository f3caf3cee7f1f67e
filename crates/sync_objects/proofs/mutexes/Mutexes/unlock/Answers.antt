-- The row at the mutex, and the table after it.
use Rattle.std.proofs.Common.{rules, arith}
use Rattle.guest_call.specs.Mutexes.{unlocked, mutex_queue, unlock_row}
use Rattle.guest_call.proofs.Rows.{unlock_fair}
use Rattle.sync_objects.proofs.TableKept.{still_kept}
use Rattle.sync_objects.proofs.mutexes.Mutexes.unlock.Goals as goal

pub returns : goal.returns
returns c =
    rw (← c.self.view_is) (c.at_cell.ensures unlocked (unlock_row c.args.t)
    (λ x y e k. search (rules, k.met, k.shows, k.leaves)))

pub invariant_of-self : goal.invariant_of-self
invariant_of-self c =
    still_kept mutex_queue unlocked (unlock_row c.args.t) c.self.inside.cells c.at_cell.new.cells c.at_cell.result
    c.args.m c.args.t (unlock_fair c.args.t)
    (λ x. grind arith) (c.at_cell.ensures unlocked (unlock_row c.args.t)
    (λ x y e k. search (rules, k.met, k.shows, k.leaves))) c.self.invariant
