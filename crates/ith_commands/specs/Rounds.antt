-- The promises on the rounds of a command line.
use Rattle.std.specs.Prelude.{◌≡◌, ℕ, true, List, All, IfSome, Some, slice_get, is_some}
use Rattle.machine_spec.specs.Setup.{is_permitted, is_complete, records}
use Rattle.history_spec.specs.History.{History, IsHonest}
use Rattle.memo_spec.specs.Encoding.{IsEncodable}
use Rattle.round_spec.specs.Alone.{one_worker}
use Rattle.round_spec.specs.Working.{ReexecutesLeast}
use Rattle.rerun_spec.specs.Rounds.{Found, Round, Beginning, made, IsPickedByRule, resulting_history, schedule_in, entries_of, rounds_after, IsRepeated}
use Rattle.rerun_spec.specs.Making.{OnlyRepeats, Repeats}
use Rattle.rerun_spec.specs.Reports.{reports_of, made_reports, all_exit, all_made_exit}
use Rattle.ith_commands.specs.Contents.{Plan}

-- The promises on a round, whichever of this many workers made its steps: the schedule that it prints is the one that
-- was made, permitted and complete; a step is marked as reused exactly if its record fits; one worker makes the
-- schedule that follows the choice; each entry was chosen by the rule: its thread was due then, or no ready thread was;
-- if the round works as the one before it did, it executes no more than the edit reaches; and the history of the round
-- is of its own setup and honest, its records those of the machine from scratch, entry by entry.
pub record IsPromised (workers : ℕ) (r : Round) : Type 0 where
  pub entries : (made r).schedule ≡ r.found.entries
  pub permitted : is_permitted r.setup (schedule_in r) ≡ true
  pub complete : is_complete r.setup (schedule_in r) ≡ true
  pub marks : r.found.entries ≡ entries_of r
  pub alone : workers ≡ 1 → schedule_in r ≡ one_worker r.setup r.past
  pub picked : IsPickedByRule r
  pub least : ReexecutesLeast (made r)
  pub setup : (resulting_history r).setup ≡ r.setup
  pub honest : IsHonest (resulting_history r)
  pub records : (resulting_history r).records ≡ records r.setup (schedule_in r)

-- The first rounds of a plan, those that the workers found.
abbrev pub rounds_of : Plan → List Found → List Round
rounds_of p found = rounds_after p.beginning p.inputs found

-- The promises on rounds, each based on the history of the one before it: each keeps its own promises; their reports as
-- they were made are those of the machine from scratch, and so is whether each ended by exit; a round without an edit
-- repeats the round before it; and the first round repeats the history that it is based on, if that is of the same
-- setup.
pub record ArePromised (workers : ℕ) (rounds : List Round) : Type 0 where
  pub each : All (IsPromised workers) rounds
  pub reports : made_reports rounds ≡ reports_of rounds
  pub exits : all_made_exit rounds ≡ all_exit rounds
  pub repeated : (before after : Round) → IsRepeated rounds before after → Repeats before after
  pub unedited : (r : Round) (h : History)
      → slice_get rounds 0 ≡ Some r → r.past ≡ Some h → r.setup ≡ h.setup → OnlyRepeats h r

-- The rounds begin with no history, or with an honest one.
abbrev pub BeginsHonestly : Beginning → Type 0
BeginsHonestly b = IfSome b.past IsHonest

-- The facts of each round, even if it is based on a history that isn't honest: it has an end, and its history can be
-- encoded.
pub record CanBeKept (r : Round) : Type 0 where
  pub ended : is_some (made r).machine.ending ≡ true
  pub encoded : IsEncodable (resulting_history r)
