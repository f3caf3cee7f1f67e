-- Answers to the goals that the check of `Round::first_free` leaves open.
use Rattle.propagate.proofs.Choosing.{first-none}
use Rattle.propagate.proofs.round.Round.first_free.Goals as goal

pub loop-t-init : goal.loop-t-init
loop-t-init c = first-none c.args.self.now
