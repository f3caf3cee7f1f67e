-- Answers to the goals that the check of `reports_count_right` leaves open.
use Rattle.rerun_spec.proofs.Reports.{reports-count, made-count, worker_steps-steps, worker_steps-made}
use Rattle.rerun_spec.proofs.reports_count_right.Goals as goal

pub returns-clause-reports : goal.returns-clause-reports
returns-clause-reports c = reports-count

pub returns-clause-made : goal.returns-clause-made
returns-clause-made c = made-count

pub returns-clause-worker_steps : goal.returns-clause-worker_steps
returns-clause-worker_steps c = λ r workers is. is.each

pub returns-clause-steps : goal.returns-clause-steps
returns-clause-steps c = λ r workers. worker_steps-steps workers r

pub returns-clause-steps_made : goal.returns-clause-steps_made
returns-clause-steps_made c = λ r workers. worker_steps-made workers r
