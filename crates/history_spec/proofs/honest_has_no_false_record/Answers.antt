-- Answers to the goals that the check of `honest_has_no_false_record` leaves open.
use Rattle.history_spec.proofs.Making.{honest-unless-false, honest-made}
use Rattle.history_spec.proofs.honest_has_no_false_record.Goals as goal

pub returns-clause-only : goal.returns-clause-only
returns-clause-only c = honest-unless-false

pub returns-clause-always : goal.returns-clause-always
returns-clause-always c = honest-made
