-- The law is a lemma.
use Rattle.machine_spec.proofs.Steps.{apply-step}
use Rattle.machine_spec.proofs.apply_is_step.Goals as goal

pub returns : goal.returns
returns c = apply-step
