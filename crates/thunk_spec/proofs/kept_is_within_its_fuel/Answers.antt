-- The law is a lemma.
use Rattle.thunk_spec.proofs.Fuel.{kept-within}
use Rattle.thunk_spec.proofs.kept_is_within_its_fuel.Goals as goal

pub returns : goal.returns
returns c = kept-within
