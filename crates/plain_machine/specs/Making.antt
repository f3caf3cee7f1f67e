-- What is reported of a step.
use Rattle.std.specs.Prelude.{◌≡◌, ℕ}
use Rattle.thunk_spec.specs.Thunk.{Thunk, thunk}
use Rattle.machine_spec.specs.Machine.{Machine, hart_of}
use Rattle.machine_spec.specs.declared.states.Asked.{Asked}
use Rattle.machine_spec.specs.Step.{asked}
use Rattle.plain_machine.specs.declared.machine.StepResult.{StepResult}
use Rattle.plain_machine.specs.declared.thunk.ThunkResult.{ThunkResult}
use Rattle.machine_calls.specs.Doing.{effect_made}

-- The thunk of a thread's next step.
abbrev pub thunk_of : Machine → ℕ → Thunk
thunk_of m t = thunk m.frame (hart_of m t).view (hart_of m t).regs

-- What a thunk that was run requests of the machine.
abbrev pub asked_by : ℕ → ThunkResult → Asked
asked_by t d = asked t d.end d.regs

-- A result is that of the step of a thread: its count of turns, what its thunk requests, and what its call does.
pub record IsMade (m : Machine) (t : ℕ) (made : StepResult) : Type 0 where
  pub count : made.count ≡ (thunk_of m t).count
  pub asks : made.asked ≡ asked t (thunk_of m t).end (thunk_of m t).regs
  pub effect : made.effect ≡ effect_made m.frame.map m.objects t (asked t (thunk_of m t).end (thunk_of m t).regs)
