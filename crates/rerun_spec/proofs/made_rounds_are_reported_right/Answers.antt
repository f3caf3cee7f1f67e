-- Answers to the goals that the check of `made_rounds_are_reported_right` leaves open.
use Rattle.rerun_spec.proofs.Reports.{report-made, exit-made, reports-made, exits-made}
use Rattle.rerun_spec.proofs.made_rounds_are_reported_right.Goals as goal

pub returns-clause-report : goal.returns-clause-report
returns-clause-report c = λ r workers can is. report-made workers r (record { can = can; made = is })

pub returns-clause-exit : goal.returns-clause-exit
returns-clause-exit c = λ r workers can is. exit-made workers r (record { can = can; made = is })

pub returns-clause-reports : goal.returns-clause-reports
returns-clause-reports c = λ b inputs found workers are. reports-made b inputs found workers are.begin are.short are.made

pub returns-clause-exits : goal.returns-clause-exits
returns-clause-exits c = λ b inputs found workers are. exits-made b inputs found workers are.begin are.short are.made
