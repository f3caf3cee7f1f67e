-- Answers to the goals that the check of `workers_make_what_comes_to_an_end` leaves open.
use Rattle.round_spec.proofs.Workers.{ended-made}
use Rattle.round_spec.proofs.workers_make_what_comes_to_an_end.Goals as goal

pub returns : goal.returns
returns c = ended-made
