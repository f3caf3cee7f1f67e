-- What a round has executed and compared, what it costs, and a round between picks.
use Rattle.std.specs.Prelude.{◌≡◌, ◌≤◌, ◌+◌, ℕ, true, Option, Some}
use Rattle.machine_spec.specs.Setup.{Setup}
use Rattle.history_spec.specs.History.{History, is_coherent}
use Rattle.round_spec.specs.Rounds.{RoundState}
use Rattle.round_spec.specs.Alone.{after_picks}
use Rattle.round_spec.specs.Instructions.{executed_instructions}
use Rattle.round_spec.specs.Replaying.{IsReplaying}
use Rattle.round_spec.specs.Unedited.{IsUnedited}

-- How many instructions the executed entries of a round made.
abbrev pub executed_by : RoundState → ℕ
executed_by w = executed_instructions w.schedule w.records

-- A counter rose from one round to a later one by what the entries between them executed.
abbrev pub Costs : ℕ → RoundState → ℕ → RoundState → Type 0
Costs before old now new = now + executed_by old ≡ before + executed_by new

-- While a round replays a coherent history, a counter of compared pages stays as it is.
abbrev pub Spares : ℕ → RoundState → ℕ → RoundState → Type 0
Spares before old now new =
    (h : History) → is_coherent h ≡ true → IsReplaying h old → IsReplaying h new × (now ≡ before)

-- A round on the way to the one after some picks, with so many picks remaining. A counter of turns rose by what the
-- entries so far executed, and one of compared pages stays as it is if the round replays its history.
pub record IsPartWay (left : ℕ) (after begun w : RoundState) (before now compared_before compared : ℕ) : Type 0 where
  pub rest : after_picks left w ≡ after
  pub cost : Costs before begun now w
  pub rises : before ≤ now
  pub spares : Spares compared_before begun compared w
  pub compares : compared_before ≤ compared

-- What is known of how many turns this many workers executed for a round: with one worker, those of the executed steps;
-- without an edit, none; else any number.
pub record IsCostOf (workers : ℕ) (s : Setup) (before : Option History) (w : RoundState) (turns : ℕ) : Type 0 where
  pub alone : workers ≡ 1 → turns ≡ executed_by w
  pub idle : (h : History) → before ≡ Some h → IsUnedited h s → turns ≡ 0
