-- Rounds that have only replayed the history that they are based on, step by step.
use Rattle.std.specs.Prelude.{◌≡◌, ◌≢◌, ◌<◌, ℕ, Bool, true, false, ◌==◌, length, take, Some}
use Rattle.machine_spec.specs.Setup.{Setup, first}
use Rattle.history_spec.specs.History.{History, applied_from, is_coherent}
use Rattle.round_spec.specs.declared.events.Event.{Event}
use Rattle.round_spec.specs.declared.events.Event.TheVariants.{Take, Reuse, Commit, GiveBack, Stop}
use Rattle.round_spec.specs.declared.events.Pick.{Pick}
use Rattle.round_spec.specs.declared.events.Pick.TheVariants as pick
use Rattle.round_spec.specs.Rounds.{RoundState, none_in_flight}
use Rattle.round_spec.specs.Due.{place_in, is_due}
use Rattle.round_spec.specs.Choice.{pick_of}
use Rattle.round_spec.specs.Unedited.{all_reused_of}

-- A setup without an edit since a coherent history, honest or not.
pub record Repeats (h : History) (setup : Setup) : Type 0 where
  pub coherent : is_coherent h ≡ true
  pub same : h.setup ≡ setup

-- A round of the history's own setup whose steps so far are the history's first, in order, each of them reused.
pub record HasReused (h : History) (w : RoundState) : Type 0 where
  pub setup : w.setup ≡ h.setup
  pub past : w.past ≡ Some h
  pub machine : w.machine ≡ applied_from (first h.setup) w.records
  pub schedule : w.schedule ≡ take (length w.schedule) (all_reused_of h)
  pub records : w.records ≡ take (length w.schedule) h.records

-- Such a round that has done nothing else: no thread is in flight, and nothing was discarded.
pub record IsReplaying (h : History) (w : RoundState) : Type 0 where
  pub reused : HasReused h w
  pub in_flight : w.in_flight ≡ none_in_flight
  pub discarded : w.discarded ≡ 0

-- The next step of a round that replays its history: it is picked, to be reused; it is due; its place is the number of
-- entries so far; and every other thread's place is after it.
pub record IsNextStep (w : RoundState) (t : ℕ) : Type 0 where
  pub picked : pick_of w ≡ pick.Reuse t
  pub due : is_due w.past w.machine t ≡ true
  pub place : place_in w.past w.machine t ≡ length w.schedule
  pub least : (other : ℕ) → other ≢ t → length w.schedule < place_in w.past w.machine other

-- Whether a round may continue with this event after a pick: only the picked step is started; a step in flight may end,
-- and the round may be stopped, at any time.
abbrev pub goes_on_by : Pick → Event → Bool
goes_on_by (pick.Reuse t) (Reuse u) = t == u
goes_on_by (pick.Run t) (Take u) = t == u
goes_on_by p (Take u) = false
goes_on_by p (Reuse u) = false
goes_on_by p (Commit u) = true
goes_on_by p (GiveBack u) = true
goes_on_by p Stop = true
