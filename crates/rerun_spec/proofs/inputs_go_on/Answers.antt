-- Answers to the goals that the check of `inputs_go_on` leaves open.
use Rattle.rerun_spec.proofs.Inputs.{inputs-more, inputs-refused}
use Rattle.rerun_spec.proofs.inputs_go_on.Goals as goal

pub returns-clause-made : goal.returns-clause-made
returns-clause-made c = inputs-more

pub returns-clause-refused : goal.returns-clause-refused
returns-clause-refused c = inputs-refused
