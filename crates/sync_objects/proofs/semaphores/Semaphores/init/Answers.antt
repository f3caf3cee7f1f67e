-- The row at the object, if the argument is in range, and the table after it.
use Rattle.std.proofs.Common.{rules, arith, ◌≡◌, true, nat_le}
use Rattle.std.proofs.lemmas.Bool.Decides.{nat_tests}
use Rattle.guest_call.specs.Semaphores.{unposted, semaphore_queue, sem_init_row, largest_value}
use Rattle.guest_call.specs.Tables.{at_cell}
use Rattle.guest_call.proofs.Rows.{sem_init_fair}
use Rattle.sync_objects.proofs.TableKept.{still_kept, checked-in}
use Rattle.sync_objects.proofs.semaphores.Semaphores.init.Goals as goal

pub returns : goal.returns
returns c =
    let cells = c.self.inside.cells in
    let in_range : nat_le c.args.n largest_value ≡ true = grind (arith, nat_tests, c.if-n-gt-LARGEST_VALUE.false) in
    let is = c.at_cell.ensures unposted (sem_init_row c.args.n) (λ x y e k. search (rules, k.met, k.shows, k.leaves)) in
    rw (← c.self.view_is) (checked-in (nat_le c.args.n largest_value) cells
    (at_cell unposted (sem_init_row c.args.n) cells c.args.s) (c.at_cell.result, c.at_cell.new.cells) in_range is)

pub invariant_of-self : goal.invariant_of-self
invariant_of-self c =
    still_kept semaphore_queue unposted (sem_init_row c.args.n) c.self.inside.cells c.at_cell.new.cells
    c.at_cell.result c.args.s c.args._t (sem_init_fair c.args._t c.args.n)
    (λ x. grind arith) (c.at_cell.ensures unposted (sem_init_row c.args.n)
    (λ x y e k. search (rules, k.met, k.shows, k.leaves))) c.self.invariant
