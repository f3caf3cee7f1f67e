-- The law is a lemma.
use Rattle.thunk_spec.proofs.Fuel.{IsTrue-within}
use Rattle.thunk_spec.proofs.true_within_another_fuel.Goals as goal

pub returns : goal.returns
returns c = IsTrue-within
