-- The law is a lemma.
use Rattle.isa_spec.proofs.WordOf.{decoded-spells}
use Rattle.isa_spec.proofs.decoded_was_encoded.Goals as goal

pub returns : goal.returns
returns c = decoded-spells
