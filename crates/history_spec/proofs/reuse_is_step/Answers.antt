-- Answers to the goals that the check of `reuse_is_step` leaves open.
use Rattle.machine_spec.specs.Setup.{first, scratch}
use Rattle.machine_spec.proofs.Beginning.{IsWhole-first}
use Rattle.history_spec.proofs.Scratch.{scratch-frame, scratch-whole}
use Rattle.history_spec.proofs.Truth.{reuse-record, reuse-apply}
use Rattle.history_spec.proofs.reuse_is_step.Goals as goal

pub returns-clause-record : goal.returns-clause-record
returns-clause-record c = λ setup past schedule t number r premise permitted there fit.
    reuse-record setup past (scratch setup schedule) t number r premise.sound
    (scratch-whole (first setup) schedule (IsWhole-first setup premise.valid) permitted)
    (scratch-frame (first setup) schedule) there fit

pub returns-clause-apply : goal.returns-clause-apply
returns-clause-apply c = λ setup past schedule t number r premise permitted there fit.
    reuse-apply setup past (scratch setup schedule) t number r premise.sound
    (scratch-whole (first setup) schedule (IsWhole-first setup premise.valid) permitted)
    (scratch-frame (first setup) schedule) there fit
