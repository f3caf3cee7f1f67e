-- Answers to the goals that the check of `one_worker_leaves_an_honest_history` leaves open.
use Rattle.round_spec.proofs.PicksAsEvents.{lone-honest}
use Rattle.round_spec.proofs.one_worker_leaves_an_honest_history.Goals as goal

pub returns : goal.returns
returns c = λ setup past premise. lone-honest setup past premise.valid premise.sound
