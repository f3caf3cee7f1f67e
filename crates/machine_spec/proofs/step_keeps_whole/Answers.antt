-- The law is a lemma.
use Rattle.machine_spec.proofs.Steps.{step-whole}
use Rattle.machine_spec.proofs.step_keeps_whole.Goals as goal

pub returns : goal.returns
returns c = step-whole
