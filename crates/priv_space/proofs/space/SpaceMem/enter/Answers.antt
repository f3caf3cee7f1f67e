-- Answers to the goals that the check of `enter` leaves open.
use Rattle.std.proofs.Common.{refl, sym, ap, ◌∙◌}
use Rattle.std.specs.Arc.{arc_value}
use Rattle.memory_spec.specs.Pages.{allows, execute_right}
use Rattle.priv_space.specs.Changes.{any}
use Rattle.priv_space.proofs.Spaces.{fits-if, entered_space}
use Rattle.priv_space.proofs.space.SpaceMem.enter.Goals as goal
use Rattle.priv_space.proofs.space.SpaceMem.enter.Goals.{then-enter, else-enter}

pub invariant_of-self : goal.invariant_of-self
invariant_of-self c =
    let found = rw c.deref.ensures at c.in_ok-slot.ensures in
    let done = c.enter.ensures in
    fits-if any c.enter.result c.self.invariant found.slot.1 done.entered done.stays
    (λ page old new was enters. ((enters.takes page).keeps, refl))

pub returns-clause-entered : goal.returns-clause-entered
returns-clause-entered c =
    let pages = arc_value c.self.inside.pages in
    let view = arc_value c.self.inside.view in
    let found = rw c.deref.ensures at c.in_ok-slot.ensures in
    elim c.if-enter.branch [
      | then-enter w ↦
          let done = c.enter.ensures.entered w.if-enter.true in
          rw (← c.self.view_is, w.result-is)
          (entered_space pages c.args.address c.self.invariant found.slot
          (ap (allows execute_right) (sym found.perm) ∙ sym c.if-not-executes.ensures) done)
      | else-enter w ↦ rw w.result-is tt
    ]
