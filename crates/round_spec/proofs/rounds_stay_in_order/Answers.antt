-- Answers to the goals that the check of `rounds_stay_in_order` leaves open.
use Rattle.round_spec.proofs.Happening.{happens-kept, round-kept}
use Rattle.round_spec.proofs.rounds_stay_in_order.Goals as goal

pub returns-clause-event : goal.returns-clause-event
returns-clause-event c = happens-kept

pub returns-clause-events : goal.returns-clause-events
returns-clause-events c = round-kept

pub returns-clause-held : goal.returns-clause-held
returns-clause-held c = λ setup past es t valid in_flight. (round-kept setup past es valid).held t in_flight
