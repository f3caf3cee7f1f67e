-- Answers to the goals that the check of `rounds_are_by_their_schedules` leaves open.
use Rattle.round_spec.proofs.BySchedule.{by_schedule-happens, by_schedule-round}
use Rattle.round_spec.proofs.rounds_are_by_their_schedules.Goals as goal

pub returns-clause-event : goal.returns-clause-event
returns-clause-event c = by_schedule-happens

pub returns-clause-events : goal.returns-clause-events
returns-clause-events c = by_schedule-round
