-- The law is a lemma.
use Rattle.thunk_spec.proofs.Truth.{IsTrue-kept}
use Rattle.thunk_spec.proofs.kept_is_true.Goals as goal

pub returns : goal.returns
returns c = IsTrue-kept
