-- Answers to the goals that the check of `view_is_fixed` leaves open.
use Rattle.std.proofs.Common.{ap}
use Rattle.thunk_spec.specs.Thunk.{Frame}
use Rattle.machine_spec.specs.Schedule.{scratch_from}
use Rattle.history_spec.proofs.Scratch.{scratch-frame, scratch-stays}
use Rattle.history_spec.proofs.Truth.{fits-hart}
use Rattle.history_spec.proofs.view_is_fixed.Goals as goal

pub returns-clause-hart : goal.returns-clause-hart
returns-clause-hart c = scratch-stays

pub returns-clause-fit : goal.returns-clause-fit
returns-clause-fit c = λ m schedule r whole permitted none ready.
    fits-hart m (scratch_from m schedule) r (ap (λ (f : Frame). f.fuel) (scratch-frame m schedule))
    (scratch-stays m schedule r.thread whole permitted none ready)
