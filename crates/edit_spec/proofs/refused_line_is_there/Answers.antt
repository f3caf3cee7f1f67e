-- The law is a lemma.
use Rattle.edit_spec.proofs.Lengths.{refused_there}
use Rattle.edit_spec.proofs.refused_line_is_there.Goals as goal

pub returns : goal.returns
returns c = refused_there
