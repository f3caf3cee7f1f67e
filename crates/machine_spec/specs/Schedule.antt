-- Whole schedules, a schedule being the list of its steps' threads.
use Rattle.std.specs.Prelude.{ℕ, Bool, true, ◌&&◌, List, [], ◌∷◌, is_some}
use Rattle.thunk_spec.specs.Record.{Record, kept_thunk}
use Rattle.machine_spec.specs.Machine.{Machine, hart_of}
use Rattle.machine_spec.specs.Step.{step, can_step}

-- The machine after the steps of a schedule.
abbrev pub scratch_from : Machine → List ℕ → Machine
scratch_from m [] = m
scratch_from m (t ∷ schedule) = scratch_from (step m t) schedule

-- Whether each entry's thread is ready, and no end came before it.
abbrev pub is_permitted_from : Machine → List ℕ → Bool
is_permitted_from m [] = true
is_permitted_from m (t ∷ schedule) = can_step m t && is_permitted_from (step m t) schedule

-- Whether there is an end after the last entry.
abbrev pub is_complete_from : Machine → List ℕ → Bool
is_complete_from m schedule = is_some (scratch_from m schedule).ending

-- The record of the thunk that thread t would run next: its number of steps, its registers, and what is kept of the
-- thunk.
abbrev pub record_of : Machine → ℕ → Record
record_of m t =
    record {
      thread = t;
      number = (hart_of m t).number;
      start = (hart_of m t).regs;
      kept = kept_thunk m.frame (hart_of m t).view (hart_of m t).regs;
    }

-- The records of the entries of a schedule, from a machine on.
abbrev pub records_from : Machine → List ℕ → List Record
records_from m [] = []
records_from m (t ∷ schedule) = record_of m t ∷ records_from (step m t) schedule
