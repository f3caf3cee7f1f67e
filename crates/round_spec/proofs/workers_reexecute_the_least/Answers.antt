-- Answers to the goals that the check of `workers_reexecute_the_least` leaves open.
use Rattle.round_spec.proofs.ByWorkers.{reexecutes-made, reexecutes-alone}
use Rattle.round_spec.proofs.workers_reexecute_the_least.Goals as goal

pub returns-clause-workers : goal.returns-clause-workers
returns-clause-workers c = λ workers setup past entries worker_steps valid made.
    reexecutes-made workers setup past entries worker_steps valid made

pub returns-clause-alone : goal.returns-clause-alone
returns-clause-alone c = λ setup past valid. reexecutes-alone setup past valid
