-- The law is a lemma.
use Rattle.machine_spec.proofs.Beginning.{IsWhole-first}
use Rattle.machine_spec.proofs.first_is_whole.Goals as goal

pub returns : goal.returns
returns c = IsWhole-first
