-- Answers to the goals that the check of `first_false_record_is_the_verdict` leaves open.
use Rattle.history_spec.proofs.Making.{verdict-by}
use Rattle.history_spec.proofs.first_false_record_is_the_verdict.Goals as goal

pub returns : goal.returns
returns c = verdict-by
