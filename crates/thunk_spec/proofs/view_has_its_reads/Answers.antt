-- The law is a lemma.
use Rattle.thunk_spec.proofs.Truth.{has-kept}
use Rattle.thunk_spec.proofs.view_has_its_reads.Goals as goal

pub returns : goal.returns
returns c = has-kept
