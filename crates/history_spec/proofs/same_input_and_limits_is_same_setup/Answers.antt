-- Answers to the goals that the check of `same_input_and_limits_is_same_setup` leaves open.
use Rattle.history_spec.proofs.Truth.{same-setup}
use Rattle.history_spec.proofs.same_input_and_limits_is_same_setup.Goals as goal

pub returns : goal.returns
returns c = same-setup
