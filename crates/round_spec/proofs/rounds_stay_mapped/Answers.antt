-- Answers to the goals that the check of `rounds_stay_mapped` leaves open.
use Rattle.round_spec.proofs.Mapping.{event-mapped, round-mapped}
use Rattle.round_spec.proofs.rounds_stay_mapped.Goals as goal

pub returns-clause-event : goal.returns-clause-event
returns-clause-event c = event-mapped

pub returns-clause-events : goal.returns-clause-events
returns-clause-events c = round-mapped
