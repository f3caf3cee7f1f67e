-- Rounds in which only what is picked is started.
use Rattle.std.specs.Prelude.{◌≡◌, Option, Some}
use Rattle.machine_spec.specs.Setup.{Setup}
use Rattle.history_spec.specs.History.{History, IsSound}
use Rattle.round_spec.specs.Rounds.{RoundState}
use Rattle.round_spec.specs.Picking.{IsPickedSoFar}
use Rattle.round_spec.specs.Replaying.{Repeats, IsReplaying}

-- If its history is sound, all that a round has done so far was chosen by the rule. Without an edit it replays its
-- history, if that is coherent.
pub record FollowsPicks (setup : Setup) (past : Option History) (w : RoundState) : Type 0 where
  pub picked : IsSound past setup → IsPickedSoFar w
  pub replays : (h : History) → past ≡ Some h → Repeats h setup → IsReplaying h w
