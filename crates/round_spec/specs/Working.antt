-- Rounds whose executed steps work as the old ones did, and what is promised of them.
use Rattle.std.specs.Prelude.{◌≡◌, ◌≤◌, ℕ, true, false, not, ◌||◌, List, slice_get, slice_index_or, Option, Some}
use Rattle.thunk_spec.specs.declared.ends.ThunkEnd.TheVariants as thunk_end
use Rattle.thunk_spec.specs.Put.{call_at}
use Rattle.thunk_spec.specs.Record.{Record}
use Rattle.machine_spec.specs.Machine.{hart_of}
use Rattle.machine_spec.specs.Setup.{Setup}
use Rattle.history_spec.specs.History.{History, IsSound, found}
use Rattle.report_spec.specs.declared.Entry.{Entry}
use Rattle.report_spec.specs.Report.{executed_count}
use Rattle.history_spec.specs.Facts.{facts, read_slots, written_slots}
use Rattle.history_spec.specs.Before.{is_in}
use Rattle.round_spec.specs.Rounds.{RoundState}
use Rattle.round_spec.specs.Due.{is_step_at, is_due}
use Rattle.round_spec.specs.Picking.{any_thread, is_ready_and_due, machine_after}
use Rattle.round_spec.specs.Reach.{reached_of, reached_count}

-- A step does the same work as an old one: it reads the same pages and writes the same pages, and ends in the same way,
-- at a call with the same number and arguments. The bytes of the pages, and those that a put appends, may differ.
pub record IsSameWork (old new : Record) : Type 0 where
  pub reads : read_slots new ≡ read_slots old
  pub written : written_slots new ≡ written_slots old
  pub end : new.kept.end ≡ old.kept.end
  pub call : old.kept.end ≡ thunk_end.Call → call_at new.kept.finish ≡ call_at old.kept.finish

-- Entry i of a round was executed, with this record.
pub record IsExecuted (w : RoundState) (i : ℕ) (r : Record) : Type 0 where
  pub entry : slice_get w.schedule i ≡ Some (record { thread = r.thread; reused = false })
  pub recorded : slice_get w.records i ≡ Some r

-- A round works as a history did: the history is honest and of the round's program, and has the same fuel; and each
-- executed step does the same work as the history's step of its thread and number.
pub record WorksAsBefore (h : History) (w : RoundState) : Type 0 where
  pub sound : IsSound (Some h) w.setup
  pub fuel : w.setup.fuel ≡ h.setup.fuel
  pub works : (i : ℕ) (new : Record) → IsExecuted w i new
      → (old : Record) × ((found (Some h) new.thread new.number ≡ Some old) × IsSameWork old new)

-- The history's step of a record's thread and number, at its place, is one that a setup in place of the history's
-- reaches.
pub record IsReachedStep (h : History) (setup : Setup) (r : Record) : Type 0 where
  pub place : ℕ
  pub step : is_step_at (facts h) r.thread r.number place ≡ true
  pub reached : slice_get (reached_of h setup) place ≡ Some true

-- A round executes no more than its setup reaches: the history's step of each executed entry is reached, and no more
-- entries are executed than steps are reached.
pub record ExecutesWhatIsReached (h : History) (w : RoundState) : Type 0 where
  pub entries : (i : ℕ) (r : Record) → IsExecuted w i r → IsReachedStep h w.setup r
  pub count : executed_count w.schedule ≤ reached_count (Some h) w.setup

-- Least re-execution: if a round works as the history that it is based on did, it executes no more than its setup
-- reaches.
abbrev pub ReexecutesLeast : RoundState → Type 0
ReexecutesLeast w = (h : History) → w.past ≡ Some h → WorksAsBefore h w → ExecutesWhatIsReached h w

-- A step stays within the work of an old one: it writes no page that the old one doesn't write, and ends in the same
-- way, at a call with the same number and arguments. It may read other pages.
pub record IsWithinWork (old new : Record) : Type 0 where
  pub written : (p : ℕ) → is_in p (written_slots new) ≡ true → is_in p (written_slots old) ≡ true
  pub end : new.kept.end ≡ old.kept.end
  pub call : old.kept.end ≡ thunk_end.Call → call_at new.kept.finish ≡ call_at old.kept.finish

-- A round stays within the work of a history: as one that works as the history did, but each executed step only stays
-- within the work of the old one.
pub record WorksWithin (h : History) (w : RoundState) : Type 0 where
  pub sound : IsSound (Some h) w.setup
  pub fuel : w.setup.fuel ≡ h.setup.fuel
  pub works : (i : ℕ) (new : Record) → IsExecuted w i new
      → (old : Record) × ((found (Some h) new.thread new.number ≡ Some old) × IsWithinWork old new)

-- Entry i of a schedule was in time when there were so many entries, no more than i: its thread had made as many steps
-- as at entry i, and it was due, or no ready thread was.
pub record IsInTime (setup : Setup) (past : Option History) (schedule : List Entry) (i : ℕ) (e : Entry)
    (length_then : ℕ) : Type 0 where
  pub earlier : length_then ≤ i
  pub number :
      (hart_of (machine_after setup schedule length_then) e.thread).number
      ≡ (hart_of (machine_after setup schedule i) e.thread).number
  pub due :
      (is_due past (machine_after setup schedule length_then) e.thread
      || not (any_thread (machine_after setup schedule length_then)
      (is_ready_and_due past (machine_after setup schedule length_then))))
      ≡ true

-- Each entry of a schedule was in time when the schedule was as long as `points` says for the entry.
pub record AreInTime (setup : Setup) (past : Option History) (schedule : List Entry) (points : List ℕ) : Type 0 where
  pub each :
      (i : ℕ) (e : Entry) → slice_get schedule i ≡ Some e → IsInTime setup past schedule i e (slice_index_or points i 0)
