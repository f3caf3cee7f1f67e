-- Answers to the goals that the check of `one_worker_does_events` leaves open.
use Rattle.round_spec.proofs.PicksAsEvents.{picks-events}
use Rattle.round_spec.proofs.one_worker_does_events.Goals as goal

pub returns : goal.returns
returns c = picks-events
