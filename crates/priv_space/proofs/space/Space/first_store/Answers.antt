-- Answers to the goals that the check of `first_store` leaves open.
use Rattle.std.proofs.Common.{ap, sym, ◌∙◌}
use Rattle.std.specs.Arc.{arc_value}
use Rattle.memory_spec.specs.Access.{may_store}
use Rattle.memory_spec.specs.Pages.{allows, write_right, page_of}
use Rattle.priv_space.specs.Changes.{StoresNumber}
use Rattle.priv_space.proofs.Spaces.{fits-outcome, stored_space}
use Rattle.priv_space.proofs.space.Space.first_store.Goals as goal

pub returns-in-Ok : goal.returns-in-Ok
unfolding may_store
returns-in-Ok c =
    let done = rw (c.deref-in-Some.ensures, c.access_to-access.ensures.value) at c.in-Ok.ensures in
    let found = rw c.deref.ensures at c.in-Some.ensures in
    rw (← c.self.view_is) (
      ap (allows write_right) (sym found.perm) ∙ sym c.if-not-writes.ensures,
      stored_space (arc_value c.self.inside.pages) c.args.address c.args.size c.args.value c.self.invariant
          found.slot c.requires done.others done.change,
    )

pub invariant_of-self-in-Some : goal.invariant_of-self-in-Some
invariant_of-self-in-Some c =
    let pages = arc_value c.self.inside.pages in
    let view = arc_value c.self.inside.view in
    let done = rw (c.deref-in-Some.ensures, c.access_to-access.ensures.value) at c.store.ensures in
    let found = rw c.deref.ensures at c.in-Some.ensures in
    fits-outcome (allows write_right)
    (λ value. StoresNumber (page_of view c.in-Some.slot)
    (record { slot = c.in-Some.slot; offset = _; size = c.args.size }) c.args.value)
    c.args.address c.store.result c.self.invariant found.slot
    (ap (allows write_right) (sym found.perm) ∙ sym c.if-not-writes.ensures)
    (λ value old new stored. stored.keeps) done
