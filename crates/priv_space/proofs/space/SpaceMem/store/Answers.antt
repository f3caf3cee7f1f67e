-- Answers to the goals that the check of `store` leaves open.
use Rattle.std.specs.Arc.{arc_value}
use Rattle.memory_spec.specs.Pages.{allows, write_right}
use Rattle.priv_space.proofs.Spaces.{fits-if, stored_again}
use Rattle.priv_space.proofs.space.SpaceMem.store.Goals as goal

pub invariant_of-self : goal.invariant_of-self
invariant_of-self c =
    let found = rw c.deref.ensures at c.in-Some.ensures in
    let done = rw (c.access_to-access.ensures.value) at c.store_again.ensures in
    fits-if (allows write_right) c.store_again.result c.self.invariant found.1 done.stored done.stays
    (λ page old new was again. ((again.stores page).keeps, again.writes _ was))

pub returns-then-store_again : goal.returns-then-store_again
returns-then-store_again c =
    let found = rw c.deref.ensures at c.in-Some.ensures in
    let done = rw (c.access_to-access.ensures.value) at c.store_again.ensures in
    rw (← c.self.view_is)
    (stored_again (arc_value c.self.inside.pages) c.args.address c.args.size c.args.value c.self.invariant found
    c.requires (done.stored c.if-store_again.true))
