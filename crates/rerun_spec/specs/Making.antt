-- Rounds that workers make, and what holds of each of them.
use Rattle.std.specs.Prelude.{ℕ, ◌≡◌, ◌≢◌, true, List, [], All, is_some}
use Rattle.machine_spec.specs.Setup.{first, scratch, is_permitted, is_complete, records}
use Rattle.history_spec.specs.History.{History, schedule_of}
use Rattle.report_spec.specs.Report.{threads_of, instructions_from, report}
use Rattle.round_spec.specs.declared.events.Pick.TheVariants as pick
use Rattle.round_spec.specs.Rounds.{opening}
use Rattle.round_spec.specs.Choice.{pick_of}
use Rattle.round_spec.specs.Alone.{one_worker, after_picks}
use Rattle.round_spec.specs.Instructions.{executed_instructions}
use Rattle.round_spec.specs.Unedited.{OnlyReuses}
use Rattle.round_spec.specs.OneWorker.{executed_in}
use Rattle.rerun_spec.specs.Inputs.{AreShort}
use Rattle.rerun_spec.specs.Rounds.{Found, Round, Beginning, made, IsMade, IsPickedByRule, resulting_history, CanBegin, rounds_after, schedule_in, entries_of, machine_of}
use Rattle.rerun_spec.specs.Reports.{extras_in, report_of, is_exit, exits}

-- So many workers make rounds on inputs that are short enough, from a beginning whose setup may be run and whose
-- history is sound for it, or none.
pub record AreMade (b : Beginning) (inputs : List (List ℕ)) (found : List Found) (workers : ℕ) : Type 0 where
  pub begin : CanBegin b
  pub short : AreShort inputs
  pub made : All (IsMade workers) (rounds_after b inputs found)

-- A round that workers made has an end and at least one step, and its schedule is the one that they found.
pub record ComesToAnEnd (r : Round) : Type 0 where
  pub ends : is_some (made r).machine.ending ≡ true
  pub steps : (made r).schedule ≢ []
  pub entries : (made r).schedule ≡ r.found.entries

-- A round as it was made is what its report says: its entries have exact marks and were chosen by the rule; their
-- threads are a schedule that is permitted and complete; machine and records are those from scratch under it; and the
-- report is that of the round as it was made, with the instructions that were executed.
pub record IsAsReported (r : Round) : Type 0 where
  pub permitted : is_permitted r.setup (threads_of (entries_of r)) ≡ true
  pub complete : is_complete r.setup (threads_of (entries_of r)) ≡ true
  pub entries : (made r).schedule ≡ entries_of r
  pub marks : r.found.entries ≡ entries_of r
  pub picked : IsPickedByRule r
  pub machine : (made r).machine ≡ scratch r.setup (threads_of (entries_of r))
  pub records : (made r).records ≡ records r.setup (threads_of (entries_of r))
  pub ends : is_some (machine_of r).ending ≡ true
  pub instructions : executed_instructions (made r).schedule (made r).records
      ≡ instructions_from (first r.setup) (entries_of r)
  pub report : report_of r ≡ report r.number r.setup (made r).schedule (extras_in r) r.found.worker_steps
  pub exit : exits r ≡ is_exit (made r).machine.ending

-- A round of one worker follows the choice, and the instructions that it executes, pick by pick, are as many as its
-- report says.
pub record FollowsTheChoice (r : Round) : Type 0 where
  pub schedule : schedule_in r ≡ one_worker r.setup r.past
  pub executed : executed_in r.setup.limit (opening r.setup r.past) ≡ instructions_from (first r.setup) (entries_of r)

-- A round only reuses a history: its schedule and its machine are the history's, and its report counts no executed
-- instruction.
pub record OnlyRepeats (h : History) (r : Round) : Type 0 where
  pub reuses : OnlyReuses h (made r)
  pub instructions : instructions_from (first r.setup) (entries_of r) ≡ 0

-- A round does what the round before it did, and executes nothing: it only reuses the history of that one; its schedule
-- and its machine, and with it end, output and final memory, are those of the round before.
pub record Repeats (before after : Round) : Type 0 where
  pub repeats : OnlyRepeats (resulting_history before) after
  pub schedule : schedule_in after ≡ schedule_in before
  pub machine : machine_of after ≡ machine_of before

-- A round does what the round of a history did, and executes nothing.
pub record RepeatsHistory (h : History) (r : Round) : Type 0 where
  pub repeats : OnlyRepeats h r
  pub schedule : schedule_in r ≡ schedule_of h
  pub machine : machine_of r ≡ scratch h.setup (schedule_of h)

-- One worker that makes a round picks no step to be executed, and executes nothing.
pub record PicksNoneToExecute (r : Round) : Type 0 where
  pub never_runs : (n t : ℕ) → pick_of (after_picks n (opening r.setup r.past)) ≢ pick.Run t
  pub executed : executed_in r.setup.limit (opening r.setup r.past) ≡ 0
