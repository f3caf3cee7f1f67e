-- Which entries of a round were chosen by the rule, whatever happened between the pick of each and its commit.
use Rattle.std.specs.Prelude.{◌≡◌, ℕ, ◌≤◌, Bool, true, not, ◌&&◌, ◌||◌, ◌==◌, List, length, take, slice_get, slice_index_or, Option, Some, is_some}
use Rattle.std.specs.List.{list_any, range_with_len}
use Rattle.machine_spec.specs.Machine.{Machine, hart_of, is_ready}
use Rattle.machine_spec.specs.Setup.{Setup, scratch}
use Rattle.history_spec.specs.History.{History, found}
use Rattle.report_spec.specs.declared.Entry.{Entry}
use Rattle.report_spec.specs.Report.{threads_of}
use Rattle.round_spec.specs.Marks.{fits_next}
use Rattle.round_spec.specs.Rounds.{RoundState, is_in_flight, taken_when}
use Rattle.round_spec.specs.Due.{is_due}

-- Whether a thread is ready and due.
abbrev pub is_ready_and_due : Option History → Machine → ℕ → Bool
is_ready_and_due past m t = is_ready (hart_of m t).status && is_due past m t

-- Whether any thread of a machine passes a test.
abbrev pub any_thread : Machine → (ℕ → Bool) → Bool
any_thread m test = list_any test (range_with_len 0 (length m.harts))

-- Whether a thread's step of this number is chosen by the rule on a machine: the thread is ready at that number; it is
-- due, or no ready thread is; and if the history has no record of the step, no thread that is ready and due has a
-- record that fits.
unfoldable pub is_picked_on : Option History → Machine → ℕ → ℕ → Bool
is_picked_on past m t number =
    is_ready (hart_of m t).status && ((hart_of m t).number == number)
    && (is_due past m t || not (any_thread m (is_ready_and_due past m)))
    && (is_some (found past t number) || not (any_thread m (λ u. is_ready_and_due past m u && fits_next past m u)))

-- The machine of a round after its first so many entries.
abbrev pub machine_after : Setup → List Entry → ℕ → Machine
machine_after setup schedule i = scratch setup (threads_of (take i schedule))

-- Entry i of a round was chosen by the rule when there were `length_then` entries: no more than i, and i itself if the
-- entry is reused.
pub record IsPicked (setup : Setup) (past : Option History) (schedule : List Entry) (i : ℕ) (e : Entry)
    (length_then : ℕ) : Type 0 where
  pub earlier : length_then ≤ i
  pub at_once : e.reused ≡ true → length_then ≡ i
  pub by_rule :
      is_picked_on past (machine_after setup schedule length_then) e.thread
      (hart_of (machine_after setup schedule i) e.thread).number
      ≡ true

-- Each entry of a schedule was chosen by the rule when the schedule was as long as `picked` says for the entry.
pub record ArePicked (setup : Setup) (past : Option History) (schedule : List Entry) (picked : List ℕ) : Type 0 where
  pub each : length picked ≡ length schedule
  pub by_rule :
      (i : ℕ) (e : Entry) → slice_get schedule i ≡ Some e → IsPicked setup past schedule i e (slice_index_or picked i 0)

-- A thread in flight was chosen by the rule when its step was taken, at a schedule no longer than now.
pub record IsInFlightByRule (w : RoundState) (t : ℕ) : Type 0 where
  pub earlier : taken_when w t ≤ length w.schedule
  pub by_rule :
      is_picked_on w.past (machine_after w.setup w.schedule (taken_when w t)) t (hart_of w.machine t).number ≡ true

-- All that a round has done so far was chosen by the rule: its entries, and the steps in flight.
pub record IsPickedSoFar (w : RoundState) : Type 0 where
  pub entries : ArePicked w.setup w.past w.schedule w.picked
  pub held : (t : ℕ) → is_in_flight w t ≡ true → IsInFlightByRule w t
