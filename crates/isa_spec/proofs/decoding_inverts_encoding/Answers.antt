-- The law is a lemma.
use Rattle.isa_spec.proofs.Decoding.{decoded-encoding}
use Rattle.isa_spec.proofs.decoding_inverts_encoding.Goals as goal

pub returns : goal.returns
returns c = decoded-encoding
