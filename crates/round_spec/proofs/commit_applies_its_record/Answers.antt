-- Answers to the goals that the check of `commit_applies_its_record` leaves open.
use Rattle.round_spec.proofs.Conditions.{commit-applies}
use Rattle.round_spec.proofs.commit_applies_its_record.Goals as goal

pub returns : goal.returns
returns c = commit-applies
