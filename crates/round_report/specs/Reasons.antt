-- Why the executed entries of a round were executed.
use Rattle.std.specs.Prelude.{◌≡◌, ℕ, Bool, true, false, not, List, length, take, filter, filter_map, slice_get, option_map, Option, Some, None, if◌then◌else◌, ⊤}
use Rattle.std.specs.List.{range_with_len}
use Rattle.machine_spec.specs.Machine.{Machine, hart_of}
use Rattle.machine_spec.specs.Setup.{Setup, scratch}
use Rattle.history_spec.specs.History.{History, IsSameProgram, is_coherent}
use Rattle.report_spec.specs.declared.Entry.{Entry}
use Rattle.report_spec.specs.Report.{threads_of}
use Rattle.round_spec.specs.Marks.{record_for}
use Rattle.round_spec.specs.Rounds.{RoundState}
use Rattle.round_spec.specs.Schedules.{round_by}
use Rattle.memo_reports.specs.Listing.{addresses_of}
use Rattle.round_report.specs.declared.why.reason.Cause.{Cause}
use Rattle.round_report.specs.declared.why.reason.Reason.{Reason}
use Rattle.round_report.specs.Differences.{cause_of}
use Rattle.round_report.specs.Storing.{view_since, last_store}

-- The machine of a round before its entry i, as it was made entry by entry.
abbrev pub made_before : RoundState → ℕ → Machine
made_before w i = (round_by w.setup w.past (take i w.schedule)).machine

-- The cause of the step of a thread before entry i, if there is one.
abbrev pub cause_at : (ℕ → Machine) → RoundState → ℕ → ℕ → Option Cause
cause_at before w i t =
    cause_of (addresses_of w.setup) (last_store w.records (view_since before (threads_of w.schedule) i t))
    (hart_of (before i) t) (record_for w.past (before i) t)

-- A cause, and the step that it is of.
abbrev pub reason_of_step : (ℕ → Machine) → ℕ → ℕ → Cause → Reason
reason_of_step before i t cause =
    record { step = i; thread = t; number = (hart_of (before i) t).number; cause = cause }

-- The reason of an entry: none if it is reused.
abbrev pub reason_of : (ℕ → Machine) → RoundState → ℕ → Option Entry → Option Reason
reason_of before w i None = None
reason_of before w i (Some e) = if e.reused then None else option_map (reason_of_step before i e.thread) (cause_at before w i e.thread)

-- The reasons of a round's entries, in order, by the machines before them.
abbrev pub reasons_by : (ℕ → Machine) → RoundState → List Reason
reasons_by before w = filter_map (λ i. reason_of before w i (slice_get w.schedule i)) (range_with_len 0 (length w.schedule))

-- The same of a round as it was made.
unfoldable pub reasons_of : RoundState → List Reason
reasons_of w = reasons_by (made_before w) w

-- Whether an entry was executed.
abbrev pub is_executed : Option Entry → Bool
is_executed None = false
is_executed (Some e) = not e.reused

-- The places of the executed entries of a schedule.
abbrev pub executed_places : List Entry → List ℕ
executed_places schedule = filter (λ i. is_executed (slice_get schedule i)) (range_with_len 0 (length schedule))

-- A history is coherent, and is of the program and the fuel of a setup.
pub record IsOldRun (h : History) (setup : Setup) : Type 0 where
  pub coherent : is_coherent h ≡ true
  pub program : IsSameProgram h.setup setup
  pub fuel : h.setup.fuel ≡ setup.fuel

-- The history that a round is based on, if any, is such a history.
abbrev pub IsBasedOnOldRun : Option History → Setup → Type 0
IsBasedOnOldRun None setup = ⊤
IsBasedOnOldRun (Some h) setup = IsOldRun h setup

-- The machine from scratch before entry i of a round.
abbrev pub scratch_before : RoundState → ℕ → Machine
scratch_before w i = scratch w.setup (threads_of (take i w.schedule))
