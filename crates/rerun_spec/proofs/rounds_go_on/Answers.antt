-- Answers to the goals that the check of `rounds_go_on` leaves open.
use Rattle.rerun_spec.proofs.Going.{rounds-later, after-later, rounds-one, after-one, last-one, rounds-few, after-few, number-later, setup-later, asked-later, past-later}
use Rattle.rerun_spec.proofs.rounds_go_on.Goals as goal

pub returns-clause-later : goal.returns-clause-later
returns-clause-later c = rounds-later

pub returns-clause-after : goal.returns-clause-after
returns-clause-after c = after-later

pub returns-clause-one : goal.returns-clause-one
returns-clause-one c = rounds-one

pub returns-clause-next : goal.returns-clause-next
returns-clause-next c = after-one

pub returns-clause-last : goal.returns-clause-last
returns-clause-last c = last-one

pub returns-clause-few : goal.returns-clause-few
returns-clause-few c = rounds-few

pub returns-clause-few_after : goal.returns-clause-few_after
returns-clause-few_after c = after-few

pub returns-clause-number : goal.returns-clause-number
returns-clause-number c = number-later

pub returns-clause-setup : goal.returns-clause-setup
returns-clause-setup c = setup-later

pub returns-clause-asked : goal.returns-clause-asked
returns-clause-asked c = asked-later

pub returns-clause-past : goal.returns-clause-past
returns-clause-past c = past-later
