-- The law is a lemma.
use Rattle.edit_spec.proofs.Encoding.{one_edit}
use Rattle.edit_spec.proofs.line_encodes_one_edit.Goals as goal

pub returns : goal.returns
returns c = one_edit
