-- Answers to the goals that the check of `no_history_changes_nothing` leaves open.
use Rattle.round_spec.proofs.Agreeing.{choice_by-nothing, one_worker-nothing}
use Rattle.round_spec.proofs.no_history_changes_nothing.Goals as goal

pub returns-clause-choice : goal.returns-clause-choice
returns-clause-choice c = choice_by-nothing

pub returns-clause-schedule : goal.returns-clause-schedule
returns-clause-schedule c = one_worker-nothing
