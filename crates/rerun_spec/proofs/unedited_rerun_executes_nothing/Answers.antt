-- Answers to the goals that the check of `unedited_rerun_executes_nothing` leaves open.
use Rattle.rerun_spec.proofs.Repeating.{rerun-again, again-reuses, again-schedule, again-instructions, again-never_runs, again-executed, again-machine}
use Rattle.rerun_spec.proofs.unedited_rerun_executes_nothing.Goals as goal

pub returns-clause-repeats : goal.returns-clause-repeats
returns-clause-repeats c = λ h limits asked inputs found workers r honest rerun is.
    let again = rerun-again h limits asked inputs found r honest rerun in
    record {
      repeats =
          record { reuses = again-reuses workers h r again is; instructions = again-instructions workers h r again is };
      schedule = again-schedule workers h r again is;
      machine = again-machine workers h r again is;
    }

pub returns-clause-alone : goal.returns-clause-alone
returns-clause-alone c = λ h limits asked inputs found r honest rerun.
    let again = rerun-again h limits asked inputs found r honest rerun in
    record { never_runs = λ n t. again-never_runs h r n t again; executed = again-executed h r again }
