-- Answers to the goals that the check of `one_worker_makes_its_schedule` leaves open.
use Rattle.round_spec.proofs.Lone.{rounds-made, lone-threads, lone-scratch}
use Rattle.round_spec.proofs.one_worker_makes_its_schedule.Goals as goal

pub returns-clause-picks : goal.returns-clause-picks
returns-clause-picks c = λ setup past n premise. rounds-made setup past n premise.valid premise.sound

pub returns-clause-round : goal.returns-clause-round
returns-clause-round c = λ setup past premise. rounds-made setup past setup.limit premise.valid premise.sound

pub returns-clause-threads : goal.returns-clause-threads
returns-clause-threads c = λ setup past premise. lone-threads setup past premise.valid premise.sound

pub returns-clause-scratch : goal.returns-clause-scratch
returns-clause-scratch c = λ setup past premise. lone-scratch setup past premise.valid premise.sound
