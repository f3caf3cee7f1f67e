-- Answers to the goals that the check of `no_edit_list_is_one_round` leaves open.
use Rattle.machine_spec.specs.Setup.{first}
use Rattle.rerun_spec.proofs.Reports.{marks-nothing, only-report, only-exits, alone-report, alone-exits, only-rerun, only-unedited}
use Rattle.rerun_spec.proofs.no_edit_list_is_one_round.Goals as goal

pub returns-clause-marks : goal.returns-clause-marks
returns-clause-marks c = λ setup. marks-nothing (first setup)

pub returns-clause-reports : goal.returns-clause-reports
returns-clause-reports c = only-report

pub returns-clause-exits : goal.returns-clause-exits
returns-clause-exits c = only-exits

pub returns-clause-alone : goal.returns-clause-alone
returns-clause-alone c = alone-report

pub returns-clause-alone_exits : goal.returns-clause-alone_exits
returns-clause-alone_exits c = alone-exits

pub returns-clause-rerun : goal.returns-clause-rerun
returns-clause-rerun c = only-rerun

pub returns-clause-unedited : goal.returns-clause-unedited
returns-clause-unedited c = only-unedited
