-- Answers to the goals that the check of `honest_is_coherent` leaves open.
use Rattle.history_spec.proofs.Truth.{honest-coherent}
use Rattle.history_spec.proofs.honest_is_coherent.Goals as goal

pub returns : goal.returns
returns c = honest-coherent
