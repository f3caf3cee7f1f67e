-- The round whose executed steps are explained, and what is promised of the reasons.
use Rattle.std.specs.Prelude.{◌≡◌, ℕ, List, map}
use Rattle.round_spec.specs.Rounds.{RoundState}
use Rattle.round_spec.specs.Alone.{lone_round}
use Rattle.rerun_spec.specs.Rounds.{Beginning, with_input}
use Rattle.round_report.specs.declared.why.reason.Reason.{Reason}
use Rattle.round_report.specs.Reasons.{reasons_of, reasons_by, scratch_before, executed_places}
use Rattle.round_report.specs.WhyText.{why_text}
use Rattle.ith_commands.specs.Rounds.{BeginsHonestly}

-- The first round of a beginning, on an input, as one worker makes it.
abbrev pub explained_round : Beginning → List ℕ → RoundState
explained_round b input = lone_round (with_input b.setup input) b.past

-- The text that says why the executed steps of a round were executed.
abbrev pub why_of : RoundState → List ℕ
why_of w = why_text (reasons_of w)

-- The promises on the reasons of this round: each executed step has one, in order, and no other step has; and if the
-- round is based on an honest history, they are those of the machine from scratch.
pub record AreTheReasons (b : Beginning) (input : List ℕ) : Type 0 where
  pub each :
      map (λ (r : Reason). r.step) (reasons_of (explained_round b input))
      ≡ executed_places (explained_round b input).schedule
  pub scratch :
      BeginsHonestly b
      → reasons_of (explained_round b input)
      ≡ reasons_by (scratch_before (explained_round b input)) (explained_round b input)
