-- Answers to the goals that the check of `one_worker_never_waits` leaves open.
use Rattle.round_spec.proofs.Ending.{never-hold}
use Rattle.round_spec.proofs.one_worker_never_waits.Goals as goal

pub returns : goal.returns
returns c = never-hold
