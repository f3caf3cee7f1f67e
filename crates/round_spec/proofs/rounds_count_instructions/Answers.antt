-- Answers to the goals that the check of `rounds_count_instructions` leaves open.
use Rattle.round_spec.proofs.Executed.{round-executed}
use Rattle.round_spec.proofs.rounds_count_instructions.Goals as goal

pub returns : goal.returns
returns c = λ setup past es premise. round-executed setup past es premise.valid premise.sound
