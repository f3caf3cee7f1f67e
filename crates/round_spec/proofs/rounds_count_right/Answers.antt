-- Answers to the goals that the check of `rounds_count_right` leaves open.
use Rattle.round_spec.proofs.Counting.{happens-counted, round-counted}
use Rattle.round_spec.proofs.rounds_count_right.Goals as goal

pub returns-clause-event : goal.returns-clause-event
returns-clause-event c = happens-counted

pub returns-clause-events : goal.returns-clause-events
returns-clause-events c = round-counted
