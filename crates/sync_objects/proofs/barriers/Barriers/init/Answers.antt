-- The row at the object, if the argument is in range, and the table after it.
use Rattle.std.proofs.Common.{rules, arith, ◌≡◌, true}
use Rattle.std.proofs.lemmas.Bool.Decides.{nat_tests}
use Rattle.guest_call.specs.Barriers.{uninitialised, barrier_queue, barrier_init_row, is_count}
use Rattle.guest_call.specs.Tables.{at_cell}
use Rattle.guest_call.proofs.Rows.{barrier_init_fair}
use Rattle.sync_objects.proofs.TableKept.{still_kept, checked-in}
use Rattle.sync_objects.proofs.barriers.Barriers.init.Goals as goal

pub returns : goal.returns
returns c =
    let cells = c.self.inside.cells in
    let in_range : is_count c.args.n ≡ true =
    grind (arith, nat_tests, c.if-n-eq0.false, c.if-n-gt-LARGEST_COUNT.false) in
    let is =
    c.at_cell.ensures uninitialised (barrier_init_row c.args.n) (λ x y e k. search (rules, k.met, k.shows, k.leaves)) in
    rw (← c.self.view_is) (checked-in (is_count c.args.n) cells
    (at_cell uninitialised (barrier_init_row c.args.n) cells c.args.b) (c.at_cell.result, c.at_cell.new.cells) in_range
    is)

pub invariant_of-self : goal.invariant_of-self
invariant_of-self c =
    still_kept barrier_queue uninitialised (barrier_init_row c.args.n) c.self.inside.cells c.at_cell.new.cells
    c.at_cell.result c.args.b c.args._t (barrier_init_fair c.args._t c.args.n)
    (λ x. grind arith) (c.at_cell.ensures uninitialised (barrier_init_row c.args.n)
    (λ x y e k. search (rules, k.met, k.shows, k.leaves))) c.self.invariant
