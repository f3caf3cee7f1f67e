-- Answers to the goals that the check of `repeated_round_executes_nothing` leaves open.
use Rattle.rerun_spec.specs.Rounds.{resulting_history}
use Rattle.rerun_spec.proofs.Repeating.{repeated-after, again-reuses, again-instructions, again-never_runs, again-executed, after-schedule, after-machine}
use Rattle.rerun_spec.proofs.repeated_round_executes_nothing.Goals as goal

pub returns-clause-repeats : goal.returns-clause-repeats
returns-clause-repeats c = λ b inputs found workers before after are repeated.
    let is = repeated-after b inputs found workers before after are.begin are.short are.made repeated in
    record {
      repeats =
          record {
            reuses = again-reuses workers (resulting_history before) after is.again is.made;
            instructions = again-instructions workers (resulting_history before) after is.again is.made;
          };
      schedule = after-schedule workers before after is;
      machine = after-machine workers before after is;
    }

pub returns-clause-alone : goal.returns-clause-alone
returns-clause-alone c = λ b inputs found workers before after are repeated.
    let is = repeated-after b inputs found workers before after are.begin are.short are.made repeated in
    record {
      never_runs = λ n t. again-never_runs (resulting_history before) after n t is.again;
      executed = again-executed (resulting_history before) after is.again;
    }
