-- The marks of a schedule: which steps are reused from an earlier history.
use Rattle.std.specs.Prelude.{ℕ, Bool, false, List, [], ◌∷◌, Option, Some, None, unwrap_or, if◌then◌else◌}
use Rattle.thunk_spec.specs.Record.{Record}
use Rattle.machine_spec.specs.Machine.{Machine, hart_of}
use Rattle.machine_spec.specs.Step.{step, fits}
use Rattle.machine_spec.specs.Schedule.{record_of}
use Rattle.machine_spec.specs.Setup.{Setup, first}
use Rattle.history_spec.specs.History.{History, found}
use Rattle.report_spec.specs.declared.Entry.{Entry}

-- The history's record of a thread's next step, if it has one.
abbrev pub record_for : Option History → Machine → ℕ → Option Record
record_for past m t = found past t (hart_of m t).number

-- Whether there is a record, and it fits a machine.
abbrev pub is_fitting : Machine → Option Record → Bool
is_fitting m None = false
is_fitting m (Some r) = fits m r

-- Whether the history has a record of a thread's next step, and it fits.
abbrev pub fits_next : Option History → Machine → ℕ → Bool
fits_next past m t = is_fitting m (record_for past m t)

-- The entries of a schedule from a machine on: a step is reused exactly if the history's record of it fits.
abbrev pub marked_from : Option History → Machine → List ℕ → List Entry
marked_from past m [] = []
marked_from past m (t ∷ schedule) =
    record { thread = t; reused = fits_next past m t } ∷ marked_from past (step m t) schedule

-- The same from a setup's start on.
abbrev pub marked : Option History → Setup → List ℕ → List Entry
marked past setup schedule = marked_from past (first setup) schedule

-- The record of an entry: the history's if the entry is reused and there is one, else that of the step itself.
abbrev pub source_of : Option History → Machine → Entry → Record
source_of past m e =
    if e.reused then unwrap_or (record_for past m e.thread) (record_of m e.thread) else record_of m e.thread

-- The records of the entries of a schedule from a machine on, each by its source.
abbrev pub sourced_from : Option History → Machine → List Entry → List Record
sourced_from past m [] = []
sourced_from past m (e ∷ schedule) = source_of past m e ∷ sourced_from past (step m e.thread) schedule

-- The same from a setup's start on.
abbrev pub sourced : Option History → Setup → List Entry → List Record
sourced past setup schedule = sourced_from past (first setup) schedule
