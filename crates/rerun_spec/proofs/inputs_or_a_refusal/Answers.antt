-- Answers to the goals that the check of `inputs_or_a_refusal` leaves open.
use Rattle.rerun_spec.proofs.Inputs.{inputs-one, inputs-unrefused, inputs-or-refused, refused-one, refused-below}
use Rattle.rerun_spec.proofs.inputs_or_a_refusal.Goals as goal

pub returns-clause-either : goal.returns-clause-either
returns-clause-either c = inputs-or-refused

pub returns-clause-not_both : goal.returns-clause-not_both
returns-clause-not_both c = inputs-unrefused

pub returns-clause-one_list : goal.returns-clause-one_list
returns-clause-one_list c = inputs-one

pub returns-clause-one_refusal : goal.returns-clause-one_refusal
returns-clause-one_refusal c = λ input lists. refused-one lists input

pub returns-clause-place : goal.returns-clause-place
returns-clause-place c = λ input lists. refused-below lists input
