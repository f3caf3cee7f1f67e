-- Answers to the goals that the check of `audits_agree` leaves open.
use Rattle.machine_spec.specs.Setup.{first}
use Rattle.history_spec.proofs.Making.{one-first}
use Rattle.history_spec.proofs.audits_agree.Goals as goal

pub returns : goal.returns
returns c = λ h a b. one-first (first h.setup) h.records a b
