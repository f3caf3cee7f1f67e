-- Answers to the goals that the check of `one_worker_picks_by_rule` leaves open.
use Rattle.round_spec.proofs.Picked.{lone-all_picked, lone-points}
use Rattle.round_spec.proofs.one_worker_picks_by_rule.Goals as goal

pub returns-clause-entries : goal.returns-clause-entries
returns-clause-entries c = λ setup past premise. lone-all_picked setup past premise.valid premise.sound

pub returns-clause-points : goal.returns-clause-points
returns-clause-points c = λ setup past premise. lone-points setup past premise.valid premise.sound
