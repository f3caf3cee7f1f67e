-- The law is a lemma.
use Rattle.isa_spec.proofs.Equality.{same_registers-Decides}
use Rattle.isa_spec.proofs.same_registers_are_equal.Goals as goal

pub returns : goal.returns
returns c = same_registers-Decides
