-- The law is a lemma.
use Rattle.thunk_spec.proofs.ThunkLocality.{thunk-same}
use Rattle.thunk_spec.proofs.thunk_is_local.Goals as goal

pub returns : goal.returns
returns c = thunk-same
