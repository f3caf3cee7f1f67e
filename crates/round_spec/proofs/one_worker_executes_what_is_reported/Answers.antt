-- Answers to the goals that the check of `one_worker_executes_what_is_reported` leaves open.
use Rattle.round_spec.proofs.Cost.{rounds-cost}
use Rattle.round_spec.proofs.one_worker_executes_what_is_reported.Goals as goal

pub returns-clause-picks : goal.returns-clause-picks
returns-clause-picks c = λ setup past n premise. rounds-cost setup past n premise.valid premise.sound

pub returns-clause-round : goal.returns-clause-round
returns-clause-round c = λ setup past premise. rounds-cost setup past setup.limit premise.valid premise.sound
