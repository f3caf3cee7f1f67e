-- Answers to the goals that the check of `delta_is_of_the_stores` leaves open.
use Rattle.priv_space.proofs.Collecting.{delta_from-with_stores}
use Rattle.priv_space.proofs.delta_is_of_the_stores.Goals as goal

pub returns : goal.returns
returns c = delta_from-with_stores
