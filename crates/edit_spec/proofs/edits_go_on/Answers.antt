-- The law is a lemma.
use Rattle.edit_spec.proofs.Lengths.{in_two_parts}
use Rattle.edit_spec.proofs.edits_go_on.Goals as goal

pub returns : goal.returns
returns c = in_two_parts
