-- The law is a lemma.
use Rattle.edit_spec.proofs.Bytes.{bytes_of_bytes}
use Rattle.edit_spec.proofs.edits_make_bytes_of_bytes.Goals as goal

pub returns : goal.returns
returns c = bytes_of_bytes
