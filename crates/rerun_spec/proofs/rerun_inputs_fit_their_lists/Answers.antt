-- Answers to the goals that the check of `rerun_inputs_fit_their_lists` leaves open.
use Rattle.std.proofs.Common.{refl}
use Rattle.rerun_spec.proofs.Inputs.{rerun-count, rerun-are-short, rerun-later, rerun-alone}
use Rattle.rerun_spec.proofs.rerun_inputs_fit_their_lists.Goals as goal

pub returns-clause-count : goal.returns-clause-count
returns-clause-count c = rerun-count

pub returns-clause-short : goal.returns-clause-short
returns-clause-short c = rerun-are-short

pub returns-clause-later : goal.returns-clause-later
returns-clause-later c = rerun-later

pub returns-clause-alone : goal.returns-clause-alone
returns-clause-alone c = rerun-alone

pub returns-clause-none : goal.returns-clause-none
returns-clause-none c = λ input. refl
