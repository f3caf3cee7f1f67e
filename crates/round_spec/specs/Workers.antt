-- The rounds that workers make, however they interleave.
use Rattle.std.specs.Prelude.{◌≡◌, ℕ, true, List, length, sum, Option, Some, is_some}
use Rattle.machine_spec.specs.Setup.{Setup, is_permitted, is_complete}
use Rattle.history_spec.specs.History.{History, IsHonest, IsSound}
use Rattle.report_spec.specs.declared.Entry.{Entry}
use Rattle.report_spec.specs.Report.{threads_of}
use Rattle.round_spec.specs.Marks.{marked}
use Rattle.round_spec.specs.Rounds.{history_of}
use Rattle.round_spec.specs.Schedules.{round_by}
use Rattle.round_spec.specs.Alone.{lone_round}
use Rattle.round_spec.specs.Picking.{ArePicked}
use Rattle.round_spec.specs.Unedited.{IsUnedited, all_reused_of}
use Rattle.round_spec.specs.OneWorker.{made_by}

-- So many workers make a round by this schedule with marks, of which each of them makes so many steps: the schedule is
-- one that can be made, mark by mark, and comes to an end; there is a number of steps for each worker, and these
-- numbers add up to the number of steps; one worker makes the schedule that it picks; without an edit each step of the
-- history is reused, in the history's order; and if the history is sound, or there is none, each entry was chosen by
-- the rule.
pub record IsMadeBy (workers : ℕ) (setup : Setup) (past : Option History) (entries : List Entry)
    (worker_steps : List ℕ) : Type 0 where
  pub stands : (round_by setup past entries).schedule ≡ entries
  pub ended : is_some (round_by setup past entries).machine.ending ≡ true
  pub each : length worker_steps ≡ workers
  pub steps : sum worker_steps ≡ length entries
  pub alone : workers ≡ 1 → entries ≡ (lone_round setup past).schedule
  pub unedited : (h : History) → past ≡ Some h → IsUnedited h setup → entries ≡ all_reused_of h
  pub picked : IsSound past setup → (points : List ℕ) × ArePicked setup past entries points

-- These entries make a round from scratch: the round that their schedule makes, which is permitted and complete; their
-- marks are exact; and the round's history is honest.
pub record MakeFromScratch (setup : Setup) (past : Option History) (entries : List Entry) : Type 0 where
  pub round : round_by setup past entries ≡ made_by setup past (threads_of entries)
  pub permitted : is_permitted setup (threads_of entries) ≡ true
  pub complete : is_complete setup (threads_of entries) ≡ true
  pub marks : entries ≡ marked past setup (threads_of entries)
  pub honest : IsHonest (history_of (round_by setup past entries))
