-- The law is a lemma.
use Rattle.thunk_spec.proofs.Merging.{masked-delta_of}
use Rattle.thunk_spec.proofs.delta_is_the_stores.Goals as goal

pub returns : goal.returns
returns c = masked-delta_of
