-- The law is a lemma.
use Rattle.machine_spec.proofs.Beginning.{ascends-map_of}
use Rattle.machine_spec.proofs.map_ascends.Goals as goal

pub returns : goal.returns
returns c = ascends-map_of
