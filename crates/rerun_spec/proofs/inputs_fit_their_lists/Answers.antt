-- Answers to the goals that the check of `inputs_fit_their_lists` leaves open.
use Rattle.std.proofs.Common.{refl}
use Rattle.rerun_spec.proofs.Inputs.{inputs-count, inputs-are-short}
use Rattle.rerun_spec.proofs.inputs_fit_their_lists.Goals as goal

pub returns-clause-count : goal.returns-clause-count
returns-clause-count c = inputs-count

pub returns-clause-short : goal.returns-clause-short
returns-clause-short c = inputs-are-short

pub returns-clause-none : goal.returns-clause-none
returns-clause-none c = λ input. (refl, tt)
