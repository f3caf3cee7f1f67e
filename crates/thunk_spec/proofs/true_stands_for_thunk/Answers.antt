-- The law is a lemma.
use Rattle.thunk_spec.proofs.Truth.{StandsFor-true}
use Rattle.thunk_spec.proofs.true_stands_for_thunk.Goals as goal

pub returns : goal.returns
returns c = StandsFor-true
