-- Answers to the goals that the check of `workers_pick_by_rule` leaves open.
use Rattle.round_spec.proofs.ByRule.{by_rule-opening, by_rule-happens}
use Rattle.round_spec.proofs.workers_pick_by_rule.Goals as goal

pub returns-clause-start : goal.returns-clause-start
returns-clause-start c = λ setup past premise. by_rule-opening setup past

pub returns-clause-event : goal.returns-clause-event
returns-clause-event c = by_rule-happens
