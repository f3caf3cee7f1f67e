-- The outcome of a whole schedule, and why it has none.
use Rattle.std.specs.Prelude.{◌≡◌, ℕ, ◌+◌, ◌<◌, true, false, List, [], ◌∷◌, length, take, slice_index, Some, None}
use Rattle.machine_spec.specs.Machine.{Machine}
use Rattle.machine_spec.specs.Step.{step, can_step}
use Rattle.machine_spec.specs.Setup.{Setup, first, scratch, is_permitted, is_complete}
use Rattle.plain_machine.specs.declared.replaying.Outcome.{Outcome}
use Rattle.plain_machine.specs.declared.replaying.ReplayError.{ReplayError}
use Rattle.plain_machine.specs.declared.replaying.ReplayError.TheVariants.{Forbidden, Incomplete, NoMemory}
use Rattle.plain_machine.specs.Making.{thunk_of}

-- How many turns the thunks of a schedule's steps make, from a machine on.
abbrev pub turns_from : Machine → List ℕ → ℕ
turns_from m [] = 0
turns_from m (t ∷ schedule) = (thunk_of m t).count + turns_from (step m t) schedule

-- A machine has ended, and this is its outcome, with so many turns.
pub record IsReportOf (m : Machine) (instructions : ℕ) (o : Outcome) : Type 0 where
  pub ending : m.ending ≡ Some o.ending
  pub steps : o.steps ≡ m.steps
  pub instructions_are : o.instructions ≡ instructions
  pub memory : o.memory ≡ m.memory
  pub output : o.output.items ≡ m.output

-- Why a machine has no outcome: it has no end, or the host's memory ran out.
abbrev pub LacksEnd : Machine → ReplayError → Type 0
LacksEnd m (Forbidden i) = false ≡ true
LacksEnd m Incomplete = m.ending ≡ None
LacksEnd m NoMemory = Unit {0}

-- An outcome is that of a schedule from scratch, which is permitted and complete: its end, memory and output are those
-- of the machine, its steps the schedule's length, and its instructions the turns of all thunks.
pub record IsOutcomeOf (setup : Setup) (schedule : List ℕ) (o : Outcome) : Type 0 where
  pub permitted : is_permitted setup schedule ≡ true
  pub complete : is_complete setup schedule ≡ true
  pub ending : (scratch setup schedule).ending ≡ Some o.ending
  pub steps : o.steps ≡ length schedule
  pub instructions : o.instructions ≡ turns_from (first setup) schedule
  pub memory : o.memory ≡ (scratch setup schedule).memory
  pub output : o.output.items ≡ (scratch setup schedule).output

-- An entry is the first that isn't permitted: those before it are, and its thread may not make the next step.
pub record IsFirstForbidden (setup : Setup) (schedule : List ℕ) (i : ℕ) : Type 0 where
  pub inside : i < length schedule
  pub before : is_permitted setup (take i schedule) ≡ true
  pub forbidden : can_step (scratch setup (take i schedule)) (slice_index schedule i) ≡ false

-- The causes: an entry that is forbidden; a schedule that is permitted and not complete; or the host's memory ran out.
abbrev pub IsCauseOf : Setup → List ℕ → ReplayError → Type 0
IsCauseOf setup schedule (Forbidden i) = IsFirstForbidden setup schedule i
IsCauseOf setup schedule Incomplete = (is_permitted setup schedule ≡ true) × (is_complete setup schedule ≡ false)
IsCauseOf setup schedule NoMemory = Unit {0}
