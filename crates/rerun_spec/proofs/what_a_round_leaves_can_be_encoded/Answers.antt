-- Answers to the goals that the check of `what_a_round_leaves_can_be_encoded` leaves open.
use Rattle.rerun_spec.proofs.Events.{round-encoded, round-next, lone-encoded, lone-next}
use Rattle.rerun_spec.proofs.what_a_round_leaves_can_be_encoded.Goals as goal

pub returns-clause-events : goal.returns-clause-events
returns-clause-events c = round-encoded

pub returns-clause-next : goal.returns-clause-next
returns-clause-next c = round-next

pub returns-clause-lone : goal.returns-clause-lone
returns-clause-lone c = lone-encoded

pub returns-clause-lone_next : goal.returns-clause-lone_next
returns-clause-lone_next c = lone-next
