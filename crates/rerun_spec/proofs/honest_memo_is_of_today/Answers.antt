-- Answers to the goals that the check of `honest_memo_is_of_today` leaves open.
use Rattle.rerun_spec.proofs.Todays.{honest-todays, honest-read}
use Rattle.rerun_spec.proofs.honest_memo_is_of_today.Goals as goal

pub returns-clause-todays : goal.returns-clause-todays
returns-clause-todays c = honest-todays

pub returns-clause-read : goal.returns-clause-read
returns-clause-read c = honest-read
