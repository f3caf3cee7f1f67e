-- Rounds that are determined by their schedule with marks alone, whichever workers made the steps.
use Rattle.std.specs.Prelude.{◌≡◌, if◌then◌else◌, List, [], ◌∷◌, ◌++◌, Option}
use Rattle.machine_spec.specs.Setup.{Setup}
use Rattle.history_spec.specs.History.{History}
use Rattle.report_spec.specs.declared.Entry.{Entry}
use Rattle.round_spec.specs.declared.events.Event.{Event}
use Rattle.round_spec.specs.declared.events.Event.TheVariants.{Take, Reuse, Commit}
use Rattle.round_spec.specs.Rounds.{RoundState, round_after}

-- The events that make an entry: its record is reused, or its step is taken and committed.
abbrev pub events_of : Entry → List Event
events_of e = if e.reused then Reuse e.thread ∷ [] else Take e.thread ∷ Commit e.thread ∷ []

-- The events that make the entries of a schedule, one after the other.
abbrev pub events_in : List Entry → List Event
events_in [] = []
events_in (e ∷ schedule) = events_of e ++ events_in schedule

-- The round that a schedule with marks makes, entry by entry.
abbrev pub round_by : Setup → Option History → List Entry → RoundState
round_by setup past schedule = round_after setup past (events_in schedule)

-- A round is where its schedule leads: that schedule can be made, entry by entry, and comes to the same machine and the
-- same records. So it makes no difference which steps were in flight in between, what was discarded, and whether the
-- round was stopped.
pub record IsBySchedule (w : RoundState) : Type 0 where
  pub schedule : (round_by w.setup w.past w.schedule).schedule ≡ w.schedule
  pub machine : (round_by w.setup w.past w.schedule).machine ≡ w.machine
  pub records : (round_by w.setup w.past w.schedule).records ≡ w.records
