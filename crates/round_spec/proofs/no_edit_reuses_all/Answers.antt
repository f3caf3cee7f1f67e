-- Answers to the goals that the check of `no_edit_reuses_all` leaves open.
use Rattle.std.proofs.Common.{subst}
use Rattle.round_spec.specs.OneWorker.{ReusesAll}
use Rattle.round_spec.proofs.Unedited.{unedited-schedule, unedited-reuses, unedited-never_runs, unedited-executed, unedited-instructions}
use Rattle.round_spec.proofs.no_edit_reuses_all.Goals as goal

pub returns : goal.returns
returns c = λ h setup unedited.
    subst (ReusesAll h) unedited.same
    (record {
      threads = unedited-schedule h unedited.honest;
      reuses = unedited-reuses h unedited.honest;
      never_runs = λ n t. unedited-never_runs h n t unedited.honest;
      executed = unedited-executed h unedited.honest;
      instructions = unedited-instructions h unedited.honest;
    })
