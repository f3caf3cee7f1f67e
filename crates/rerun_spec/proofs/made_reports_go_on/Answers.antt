-- Answers to the goals that the check of `made_reports_go_on` leaves open.
use Rattle.rerun_spec.proofs.Reports.{made-later, made-one, exits-one}
use Rattle.rerun_spec.proofs.made_reports_go_on.Goals as goal

pub returns-clause-later : goal.returns-clause-later
returns-clause-later c = made-later

pub returns-clause-one : goal.returns-clause-one
returns-clause-one c = made-one

pub returns-clause-exits : goal.returns-clause-exits
returns-clause-exits c = exits-one
