-- Answers to the goals that the check of `Round::all_leaders` leaves open.
use Rattle.propagate.proofs.Choosing.{leaders-none}
use Rattle.propagate.proofs.round.Round.all_leaders.Goals as goal

pub loop-t-init : goal.loop-t-init
loop-t-init c = leaders-none c.args.self.now
