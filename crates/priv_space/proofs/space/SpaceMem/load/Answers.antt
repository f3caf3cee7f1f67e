-- Answers to the goals that the check of `load` leaves open.
use Rattle.std.specs.Arc.{arc_value}
use Rattle.priv_space.proofs.Spaces.{held_space}
use Rattle.priv_space.proofs.space.SpaceMem.load.Goals as goal

pub returns-in-Some-held_number-clause-found : goal.returns-in-Some-held_number-clause-found
returns-in-Some-held_number-clause-found c =
    let found = rw c.deref.ensures at c.in-Some.ensures in
    let held = rw (c.access_to-access.ensures.value) at c.in-Some-held_number.ensures in
    rw (← c.self.view_is)
    (held_space (arc_value c.self.inside.pages) c.args.address c.args.size c.self.invariant found held)
