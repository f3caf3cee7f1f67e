-- The row at the mutex, and the table after it.
use Rattle.std.proofs.Common.{rules, arith}
use Rattle.guest_call.specs.Mutexes.{unlocked, mutex_queue, trylock_row}
use Rattle.guest_call.proofs.Rows.{trylock_fair}
use Rattle.sync_objects.proofs.TableKept.{still_kept}
use Rattle.sync_objects.proofs.mutexes.Mutexes.trylock.Goals as goal

pub returns : goal.returns
returns c =
    rw (← c.self.view_is) (c.at_cell.ensures unlocked (trylock_row c.args.t)
    (λ x y e k. search (rules, k.met, k.shows, k.leaves)))

pub invariant_of-self : goal.invariant_of-self
invariant_of-self c =
    still_kept mutex_queue unlocked (trylock_row c.args.t) c.self.inside.cells c.at_cell.new.cells c.at_cell.result
    c.args.m c.args.t (trylock_fair c.args.t)
    (λ x. grind arith) (c.at_cell.ensures unlocked (trylock_row c.args.t)
    (λ x y e k. search (rules, k.met, k.shows, k.leaves))) c.self.invariant
