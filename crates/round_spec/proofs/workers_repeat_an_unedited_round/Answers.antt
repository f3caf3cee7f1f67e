-- Answers to the goals that the check of `workers_repeat_an_unedited_round` leaves open.
use Rattle.round_spec.proofs.Workers.{workers-threads, workers-reuse}
use Rattle.round_spec.proofs.workers_repeat_an_unedited_round.Goals as goal

pub returns-clause-threads : goal.returns-clause-threads
returns-clause-threads c = workers-threads

pub returns-clause-reuses : goal.returns-clause-reuses
returns-clause-reuses c = workers-reuse
