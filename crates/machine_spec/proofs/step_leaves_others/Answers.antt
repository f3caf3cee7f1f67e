-- The law is a lemma.
use Rattle.machine_spec.proofs.Steps.{step-stays}
use Rattle.machine_spec.proofs.step_leaves_others.Goals as goal

pub returns : goal.returns
returns c = step-stays
