-- What happens to a round, one event after the other.
use Rattle.std.specs.Prelude.{ℕ, suc, Bool, true, false, not, ◌&&◌, ◌||◌, if◌then◌else◌, min, List, [], ◌∷◌, ◌++◌, length, replicate, slice_index_or, slice_set, Option, Some, None, is_some}
use Rattle.thunk_spec.specs.Record.{Record}
use Rattle.machine_spec.specs.Machine.{Machine, hart_of, is_ready}
use Rattle.machine_spec.specs.Step.{step, apply}
use Rattle.machine_spec.specs.Schedule.{record_of}
use Rattle.machine_spec.specs.Setup.{Setup, first}
use Rattle.history_spec.specs.History.{History}
use Rattle.report_spec.specs.declared.Entry.{Entry}
use Rattle.round_spec.specs.declared.events.Event.{Event}
use Rattle.round_spec.specs.declared.events.Event.TheVariants.{Take, Reuse, Commit, GiveBack, Stop}
use Rattle.round_spec.specs.Marks.{record_for, fits_next}

-- The state of a round: its setup, the history that it is based on, the machine, the schedule with marks, the records
-- of its entries, and for each entry how long the schedule was when its thread was picked; which threads are in flight,
-- and for each of them how long the schedule was when it was taken, which is 0 for the others; how many steps were
-- discarded, and whether the round was stopped.
pub record RoundState : Type 0 where
  pub setup : Setup
  pub past : Option History
  pub machine : Machine
  pub schedule : List Entry
  pub records : List Record
  pub picked : List ℕ
  pub in_flight : List Bool
  pub taken_at : List ℕ
  pub discarded : ℕ
  pub stopped : Bool

-- None of the 32 threads is in flight.
unfoldable pub none_in_flight : List Bool
none_in_flight = replicate 32 false

-- No length is kept for any of the 32 threads.
unfoldable pub nothing_taken : List ℕ
nothing_taken = replicate 32 0

-- A round at its start.
abbrev pub opening : Setup → Option History → RoundState
opening setup past =
    record {
      setup = setup;
      past = past;
      machine = first setup;
      schedule = [];
      records = [];
      picked = [];
      in_flight = none_in_flight;
      taken_at = nothing_taken;
      discarded = 0;
      stopped = false;
    }

-- Whether a round is finished: the machine has an end, or the round was stopped.
abbrev pub is_finished : RoundState → Bool
is_finished w = is_some w.machine.ending || w.stopped

-- Whether a thread is in flight: a worker has taken its next step.
abbrev pub is_in_flight_of : List Bool → ℕ → Bool
is_in_flight_of in_flight t = slice_index_or in_flight t false

abbrev pub is_in_flight : RoundState → ℕ → Bool
is_in_flight w t = is_in_flight_of w.in_flight t

-- Whether a thread is ready and not in flight.
abbrev pub is_free_in : Machine → List Bool → ℕ → Bool
is_free_in m in_flight t = is_ready (hart_of m t).status && not (is_in_flight_of in_flight t)

-- Whether a thread's next step can be started: the round isn't finished, and the thread is ready and not in flight.
abbrev pub can_begin : RoundState → ℕ → Bool
can_begin w t = not (is_finished w) && is_free_in w.machine w.in_flight t

-- Whether it can be taken: it can be started, and no record of it fits; and whether it can be reused: one fits.
abbrev pub can_take : RoundState → ℕ → Bool
can_take w t = can_begin w t && not (fits_next w.past w.machine t)

abbrev pub can_reuse : RoundState → ℕ → Bool
can_reuse w t = can_begin w t && fits_next w.past w.machine t

-- A round after a thread's next step was taken.
abbrev pub taken : RoundState → ℕ → RoundState
taken w t = record w { in_flight = slice_set w.in_flight t true; taken_at = slice_set w.taken_at t (length w.schedule) }

-- How long the schedule was when a thread that is in flight was taken.
abbrev pub taken_when : RoundState → ℕ → ℕ
taken_when w t = slice_index_or w.taken_at t 0

-- A round after the record of a thread's step was applied in the step's place.
abbrev pub reused_by : RoundState → ℕ → Option Record → RoundState
reused_by w t None = w
reused_by w t (Some r) =
    record w {
      machine = apply w.machine r;
      schedule = w.schedule ++ record { thread = t; reused = true } ∷ [];
      records = w.records ++ r ∷ [];
      picked = w.picked ++ length w.schedule ∷ [];
    }

-- A round after the step of a thread in flight was committed.
abbrev pub committed : RoundState → ℕ → RoundState
committed w t =
    record w {
      machine = step w.machine t;
      schedule = w.schedule ++ record { thread = t; reused = false } ∷ [];
      records = w.records ++ record_of w.machine t ∷ [];
      picked = w.picked ++ taken_when w t ∷ [];
      in_flight = slice_set w.in_flight t false;
      taken_at = slice_set w.taken_at t 0;
    }

-- A round after a step that was taken was discarded; the count stops at 2 ^ 64 - 1.
abbrev pub given_back : RoundState → ℕ → RoundState
given_back w t =
    record w {
      in_flight = slice_set w.in_flight t false;
      taken_at = slice_set w.taken_at t 0;
      discarded = min (suc w.discarded) 18446744073709551615;
    }

-- A round after it was stopped.
abbrev pub with_stop : RoundState → RoundState
with_stop w = record w { stopped = true }

-- A round after an event; one whose condition doesn't hold changes nothing.
unfoldable pub happens : RoundState → Event → RoundState
happens w (Take t) = if can_take w t then taken w t else w
happens w (Reuse t) = if can_reuse w t then reused_by w t (record_for w.past w.machine t) else w
happens w (Commit t) = if is_in_flight w t then (if is_finished w then given_back w t else committed w t) else w
happens w (GiveBack t) = if is_in_flight w t then given_back w t else w
happens w Stop = with_stop w

-- A round after some events, one after the other.
abbrev pub all_happen : RoundState → List Event → RoundState
all_happen w [] = w
all_happen w (e ∷ events) = all_happen (happens w e) events

-- The round of a setup, based on a history if there is one, after some events.
abbrev pub round_after : Setup → Option History → List Event → RoundState
round_after setup past events = all_happen (opening setup past) events

-- The history of a round, which the next one is based on.
abbrev pub history_of : RoundState → History
history_of w = record { setup = w.setup; records = w.records }
