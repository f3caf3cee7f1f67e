-- The law is a lemma.
use Rattle.edit_spec.proofs.Lengths.{stays_short}
use Rattle.edit_spec.proofs.edited_is_short.Goals as goal

pub returns : goal.returns
returns c = stays_short
