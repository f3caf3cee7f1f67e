-- Answers to the goals that the check of `first_load` leaves open.
use Rattle.std.proofs.Common.{ap, sym, ◌∙◌}
use Rattle.std.specs.Arc.{arc_value}
use Rattle.memory_spec.specs.Access.{loaded}
use Rattle.memory_spec.specs.Pages.{allows, read_right, page_of}
use Rattle.priv_space.specs.Changes.{TakesNumber}
use Rattle.priv_space.proofs.Spaces.{fits-outcome, taken_space, found_space}
use Rattle.priv_space.proofs.space.Space.first_load.Goals as goal

pub invariant_of-self-in-Some : goal.invariant_of-self-in-Some
invariant_of-self-in-Some c =
    let view = arc_value c.self.inside.view in
    let done = rw (c.deref-in-Some.ensures, c.access_to-access.ensures.value) at c.take.ensures in
    let found = rw c.deref.ensures at c.in-Some.ensures in
    fits-outcome (allows read_right)
    (TakesNumber (allows read_right) (page_of view c.in-Some.slot)
    (record { slot = c.in-Some.slot; offset = _; size = c.args.size })) c.args.address c.take.result c.self.invariant found.slot
    (ap (allows read_right) (sym found.perm) ∙ sym c.if-not-reads.ensures)
    (λ number old new taken. taken.takes.keeps) done

pub returns-in-Ok-clause-found : goal.returns-in-Ok-clause-found
unfolding loaded
returns-in-Ok-clause-found c =
    let pages = arc_value c.self.inside.pages in
    let done = rw (c.deref-in-Some.ensures, c.access_to-access.ensures.value) at c.in-Ok.ensures in
    let found = rw c.deref.ensures at c.in-Some.ensures in
    rw (← c.self.view_is) (
      found_space read_right pages c.args.address c.args.size c.self.invariant found.slot
          (ap (allows read_right) (sym found.perm) ∙ sym c.if-not-reads.ensures) done.change.value,
      taken_space pages c.args.address c.self.invariant found.slot done.others done.change.takes,
    )
