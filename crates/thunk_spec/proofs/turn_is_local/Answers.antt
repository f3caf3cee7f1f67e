-- The law is a lemma.
use Rattle.thunk_spec.proofs.TurnLocality.{turn-same}
use Rattle.thunk_spec.proofs.turn_is_local.Goals as goal

pub returns : goal.returns
returns c = turn-same
