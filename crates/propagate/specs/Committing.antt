-- When an executed step can be committed, and what comes of it.
use Rattle.std.specs.Prelude.{◌≡◌, ◌+◌, ℕ, true, false, if◌then◌else◌, length}
use Rattle.std.specs.Arc.{arc_value}
use Rattle.thunk_spec.specs.Thunk.{Frame}
use Rattle.thunk_spec.specs.Record.{Record}
use Rattle.machine_spec.specs.Step.{fits}
use Rattle.machine_spec.specs.Schedule.{record_of}
use Rattle.thunk_run.specs.declared.run.Run.{Run}
use Rattle.round_spec.specs.declared.events.Event.TheVariants.{Commit, GiveBack}
use Rattle.round_spec.specs.Rounds.{RoundState, is_finished, is_in_flight, taken_when, happens}
use Rattle.propagate.specs.declared.events.Committed.{Committed}
use Rattle.propagate.specs.declared.events.Committed.TheVariants.{Done, Stale, NoMemory}

-- An executed step can be committed: the round isn't finished, the step ran on the round's page map with its fuel, its
-- thread is in flight, and its record fits.
pub record CanCommit (w : RoundState) (frame : Frame) (r : Record) : Type 0 where
  pub going : is_finished w ≡ false
  pub same_frame : frame ≡ w.machine.frame
  pub taken : is_in_flight w r.thread ≡ true
  pub fit : fits w.machine r ≡ true

-- A record is the one of its thread's next step, if that step is in flight.
abbrev pub IsOfStep : RoundState → Record → Type 0
IsOfStep w r = is_in_flight w r.thread ≡ true → r ≡ record_of w.machine r.thread

-- How many entries the schedule of a round had when a thread was taken, or has now if the thread isn't in flight.
abbrev pub picked_at : RoundState → ℕ → ℕ
picked_at w t = if is_in_flight w t then taken_when w t else length w.schedule

-- What comes of committing a run. If it can be committed, it is. If it can't, it is returned, and its thread is no
-- longer in flight. If it can be but memory ran out, it is returned, and the round is as before.
abbrev pub Commits : RoundState → Run → Committed → RoundState → Type 0
Commits old run Done new =
    CanCommit old (arc_value run.frame) (arc_value run.rec) × (new ≡ happens old (Commit (arc_value run.rec).thread))
Commits old run (Stale back) new =
    (CanCommit old (arc_value run.frame) (arc_value run.rec) → ⊥) × (back ≡ run)
    × (new ≡ happens old (GiveBack (arc_value run.rec).thread))
Commits old run (NoMemory back) new =
    CanCommit old (arc_value run.frame) (arc_value run.rec) × (back ≡ run) × (new ≡ old)

-- How many entries a commit appends.
abbrev pub entries_of : Committed → ℕ
entries_of Done = 1
entries_of (Stale back) = 0
entries_of (NoMemory back) = 0

-- A round of the same setup, based on the same history, with so many more entries.
pub record Continues (n : ℕ) (old new : RoundState) : Type 0 where
  pub setup : new.setup ≡ old.setup
  pub past : new.past ≡ old.past
  pub entries : length new.schedule ≡ length old.schedule + n
