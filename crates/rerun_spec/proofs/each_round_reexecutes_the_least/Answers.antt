-- Answers to the goals that the check of `each_round_reexecutes_the_least` leaves open.
use Rattle.round_spec.specs.Working.{ReexecutesLeast}
use Rattle.rerun_spec.specs.Rounds.{made}
use Rattle.rerun_spec.proofs.Ending.{valid-made-holds, round-least}
use Rattle.rerun_spec.proofs.each_round_reexecutes_the_least.Goals as goal

pub returns : goal.returns
returns c = valid-made-holds (λ r. ReexecutesLeast (made r)) round-least
