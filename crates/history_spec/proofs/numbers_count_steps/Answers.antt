-- Answers to the goals that the check of `numbers_count_steps` leaves open.
use Rattle.history_spec.proofs.Numbers.{setup-number, honest-numbered}
use Rattle.history_spec.proofs.numbers_count_steps.Goals as goal

pub returns-clause-harts : goal.returns-clause-harts
returns-clause-harts c = setup-number

pub returns-clause-records : goal.returns-clause-records
returns-clause-records c = honest-numbered
