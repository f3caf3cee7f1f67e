-- Answers to the goals that the check of `Round::stop` leaves open.
use Rattle.std.proofs.Common.{ap, sym, ◌∙◌}
use Rattle.round_spec.specs.Rounds.{with_stop}
use Rattle.round_spec.proofs.Conditions.{happens-stop}
use Rattle.propagate.proofs.round.Round.stop.Goals as goal

pub returns-clause-event : goal.returns-clause-event
returns-clause-event c = ap with_stop c.self.view_is ∙ sym (happens-stop c.args.self.now)
