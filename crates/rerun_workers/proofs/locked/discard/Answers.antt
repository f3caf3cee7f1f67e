-- Answers to the goals that the check of `discard` leaves open.
use Rattle.std.proofs.Common.{sym, ◌∙◌}
use Rattle.round_spec.proofs.Conditions.{happens-give_back_not}
use Rattle.rerun_workers.proofs.locked.discard.Goals as goal

pub returns-else-is_in_flight-clause-event : goal.returns-else-is_in_flight-clause-event
returns-else-is_in_flight-clause-event c =
    sym (happens-give_back_not c.args.round.now c.args.t (sym c.is_in_flight.ensures.in_flight ∙ c.if-is_in_flight.false))
