-- Answers to the goals that the check of `rounds_are_from_scratch` leaves open.
use Rattle.round_spec.proofs.Leaving.{round-scratch}
use Rattle.round_spec.proofs.rounds_are_from_scratch.Goals as goal

pub returns : goal.returns
returns c = λ setup past events premise. round-scratch setup past events premise.valid premise.sound
