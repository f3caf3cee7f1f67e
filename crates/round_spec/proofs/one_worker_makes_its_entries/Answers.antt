-- Answers to the goals that the check of `one_worker_makes_its_entries` leaves open.
use Rattle.round_spec.proofs.Workers.{lone-entries, lone-made}
use Rattle.round_spec.proofs.one_worker_makes_its_entries.Goals as goal

pub returns-clause-round : goal.returns-clause-round
returns-clause-round c = lone-entries

pub returns-clause-made : goal.returns-clause-made
returns-clause-made c = lone-made
