-- Answers to the goals that the check of `rerun_inputs_or_a_refusal` leaves open.
use Rattle.rerun_spec.proofs.Inputs.{rerun-one, rerun-unrefused, rerun-or-refused}
use Rattle.rerun_spec.proofs.rerun_inputs_or_a_refusal.Goals as goal

pub returns-clause-either : goal.returns-clause-either
returns-clause-either c = rerun-or-refused

pub returns-clause-not_both : goal.returns-clause-not_both
returns-clause-not_both c = rerun-unrefused

pub returns-clause-one_list : goal.returns-clause-one_list
returns-clause-one_list c = rerun-one
