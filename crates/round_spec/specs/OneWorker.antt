-- What one worker makes: a round that its schedule determines, and how many instructions are executed.
use Rattle.std.specs.Prelude.{ℕ, zero, suc, ◌+◌, ◌≡◌, ◌≢◌, false, List, length, Option, Some}
use Rattle.std.specs.List.{range_with_len}
use Rattle.thunk_spec.specs.Thunk.{thunk}
use Rattle.machine_spec.specs.Machine.{hart_of}
use Rattle.machine_spec.specs.Setup.{Setup, first, scratch, records}
use Rattle.history_spec.specs.History.{History, schedule_of}
use Rattle.report_spec.specs.Report.{instructions_from}
use Rattle.round_spec.specs.declared.events.Pick.{Pick}
use Rattle.round_spec.specs.declared.events.Pick.TheVariants as pick
use Rattle.round_spec.specs.Marks.{marked}
use Rattle.round_spec.specs.Rounds.{RoundState, none_in_flight, nothing_taken, opening}
use Rattle.round_spec.specs.Choice.{pick_of}
use Rattle.round_spec.specs.Alone.{one_worker, after_pick, after_picks, lone_round}
use Rattle.round_spec.specs.Unedited.{OnlyReuses}

-- The round that a schedule makes, with no thread in flight, nothing discarded and no stop: its machine and its records
-- are those from scratch, its marks are exact, and each entry was picked when the schedule was as long as its place.
abbrev pub made_by : Setup → Option History → List ℕ → RoundState
made_by setup past schedule =
    record {
      setup = setup;
      past = past;
      machine = scratch setup schedule;
      schedule = marked past setup schedule;
      records = records setup schedule;
      picked = range_with_len 0 (length schedule);
      in_flight = none_in_flight;
      taken_at = nothing_taken;
      discarded = 0;
      stopped = false;
    }

-- How many instructions a worker executes for a pick: those of the thunk that it runs, else none.
abbrev pub cost_of : RoundState → Pick → ℕ
cost_of w (pick.Run t) = (thunk w.machine.frame (hart_of w.machine t).view (hart_of w.machine t).regs).count
cost_of w (pick.Reuse t) = 0
cost_of w pick.Hold = 0
cost_of w pick.Over = 0

-- How many instructions one worker executes in so many picks.
abbrev pub executed_in : ℕ → RoundState → ℕ
executed_in zero w = 0
executed_in (suc n) w = cost_of w (pick_of w) + executed_in n (after_pick w (pick_of w))

-- One worker that runs a setup, based on a history, makes the history's schedule, and its round only reuses the
-- history: it picks no step to be executed, and executes no instruction.
pub record ReusesAll (h : History) (setup : Setup) : Type 0 where
  pub threads : one_worker setup (Some h) ≡ schedule_of h
  pub reuses : OnlyReuses h (lone_round setup (Some h))
  pub never_runs : (n t : ℕ) → pick_of (after_picks n (opening setup (Some h))) ≢ pick.Run t
  pub executed : executed_in setup.limit (opening setup (Some h)) ≡ 0
  pub instructions : instructions_from (first setup) (lone_round setup (Some h)).schedule ≡ 0
