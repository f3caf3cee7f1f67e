-- Answers to the goals that the check of `rounds_leave_honest_histories` leaves open.
use Rattle.std.proofs.Common.{subst, sym}
use Rattle.machine_spec.specs.Setup.{Setup}
use Rattle.history_spec.specs.History.{IsSameProgram}
use Rattle.round_spec.proofs.Leaving.{round-setup, round-honest}
use Rattle.round_spec.proofs.rounds_leave_honest_histories.Goals as goal

pub returns-clause-honest : goal.returns-clause-honest
returns-clause-honest c = λ setup past es premise. round-honest setup past es premise.valid premise.sound

pub returns-clause-sound : goal.returns-clause-sound
returns-clause-sound c = λ setup edited past es premise ended same. (
  round-honest setup past es premise.valid premise.sound ended,
  subst (λ (s : Setup). IsSameProgram s edited) (sym (round-setup setup past es)) same,
)
