-- Answers to the goals that the check of `fetch` leaves open.
use Rattle.std.proofs.Common.{refl, ap, sym, ◌∙◌}
use Rattle.std.specs.Arc.{arc_value}
use Rattle.memory_spec.specs.declared.Size.TheVariants.{Four}
use Rattle.memory_spec.specs.Access.{fetched}
use Rattle.memory_spec.specs.Pages.{allows, execute_right, page_of}
use Rattle.priv_space.specs.Changes.{any, TakesNumber}
use Rattle.priv_space.proofs.Spaces.{fits-outcome, taken_space, found_space}
use Rattle.priv_space.proofs.space.SpaceMem.fetch.Goals as goal

pub invariant_of-self-in-Some : goal.invariant_of-self-in-Some
invariant_of-self-in-Some c =
    let view = arc_value c.self.inside.view in
    let done = rw (c.deref-in-Some.ensures, c.access_to-access.ensures.value) at c.fetch.ensures in
    let found = rw c.deref.ensures at c.in-Some.ensures in
    fits-outcome any
    (TakesNumber any (page_of view c.in-Some.slot) (record { slot = c.in-Some.slot; offset = _; size = Four }))
    c.args.address c.fetch.result c.self.invariant found.slot refl (λ number old new taken. taken.takes.keeps) done

pub returns-in-Ok : goal.returns-in-Ok
unfolding fetched
returns-in-Ok c =
    let pages = arc_value c.self.inside.pages in
    let done = rw (c.deref-in-Some.ensures, c.access_to-access.ensures.value) at c.in-Ok.ensures in
    let found = rw c.deref.ensures at c.in-Some.ensures in
    rw (← c.self.view_is) (
      found_space execute_right pages c.args.address Four c.self.invariant found.slot
          (ap (allows execute_right) (sym found.perm) ∙ sym c.if-not-executes.ensures) done.change.value,
      taken_space pages c.args.address c.self.invariant found.slot done.others done.change.takes,
    )
