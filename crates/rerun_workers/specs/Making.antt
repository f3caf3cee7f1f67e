-- What workers make together.
use Rattle.std.specs.Prelude.{◌≡◌, ℕ, true, List, length, sum, is_some, Option, Some}
use Rattle.machine_spec.specs.Setup.{Setup}
use Rattle.history_spec.specs.History.{History, IsSound}
use Rattle.round_spec.specs.Rounds.{RoundState}
use Rattle.round_spec.specs.Schedules.{IsBySchedule}
use Rattle.round_spec.specs.Alone.{lone_round}
use Rattle.round_spec.specs.Picking.{ArePicked}
use Rattle.round_spec.specs.Unedited.{IsUnedited, OnlyReuses}
use Rattle.round_spec.specs.Workers.{IsMadeBy}
use Rattle.round_spec.specs.Replaying.{Repeats}
use Rattle.round_spec.specs.Working.{ReexecutesLeast}
use Rattle.rerun_workers.specs.Following.{FollowsPicks}

-- A round of a setup, based on a history if there is one, that so many workers made, and how many of its steps each of
-- them made. The round is where its schedule leads, one worker makes the round of the choice, and if the history is
-- sound, each entry was chosen by the rule. If it works as the history did, it executes no more than its setup reaches.
-- It has an end, and without an edit it only reuses the history.
pub record IsRoundBy (workers : ℕ) (s : Setup) (before : Option History) (w : RoundState) (worker_steps : List ℕ) : Type 0
  where
    pub setup : w.setup ≡ s
    pub past : w.past ≡ before
    pub stands : IsBySchedule w
    pub made : IsMadeBy workers s before w.schedule worker_steps
    pub alone : workers ≡ 1 → w ≡ lone_round s before
    pub picked : IsSound before s → ArePicked s before w.schedule w.picked
    pub least : ReexecutesLeast w
    pub ends : is_some w.machine.ending ≡ true
    pub unedited : (h : History) → before ≡ Some h → IsUnedited h s → OnlyReuses h w

-- How many pages were compared for a round: none without an edit since a coherent history.
abbrev pub ComparesNone : Setup → Option History → ℕ → Type 0
ComparesNone s before compared = (h : History) → before ≡ Some h → Repeats h s → compared ≡ 0

-- A round after its board was closed, finished or not, how many steps each worker made, and the sums of their counters
-- of turns and of compared pages. Only what was picked was started. The steps of the workers add up to those of the
-- round. Without an edit the sums are 0.
pub record IsClosed (s : Setup) (before : Option History) (w : RoundState) (worker_steps : List ℕ) (turns compared : ℕ)
    : Type 0 where
  pub setup : w.setup ≡ s
  pub past : w.past ≡ before
  pub steps : sum worker_steps ≡ length w.schedule
  pub follows : FollowsPicks s before w
  pub idle : (h : History) → before ≡ Some h → IsUnedited h s → turns ≡ 0
  pub spares : ComparesNone s before compared
