-- Answers to the goals that the check of `workers_make_rounds_from_scratch` leaves open.
use Rattle.round_spec.proofs.Workers.{workers-round, workers-permitted, workers-complete, workers-marks, workers-honest, workers-alone}
use Rattle.round_spec.proofs.workers_make_rounds_from_scratch.Goals as goal

pub returns-clause-rounds : goal.returns-clause-rounds
returns-clause-rounds c = λ workers setup past entries worker_steps can is.
    record {
      round = workers-round workers setup past entries worker_steps can is;
      permitted = workers-permitted workers setup past entries worker_steps can is;
      complete = workers-complete workers setup past entries worker_steps can is;
      marks = workers-marks workers setup past entries worker_steps can is;
      honest = workers-honest workers setup past entries worker_steps can is;
    }

pub returns-clause-alone : goal.returns-clause-alone
returns-clause-alone c = workers-alone
