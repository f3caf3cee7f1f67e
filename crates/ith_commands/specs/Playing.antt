-- The parts of a call that makes rounds.
use Rattle.std.specs.Prelude.{◌≡◌, ℕ, ◌+◌, ◌^◌, ◌<◌, ◌≤◌, Bool, List, [], ◌∷◌, All, Option, Some, length, map, option_map}
use Rattle.std.specs.Arc.{arc_value}
use Rattle.std.specs.List.{concat}
use Rattle.machine_spec.specs.Setup.{Setup, IsSetup}
use Rattle.history_spec.specs.History.{History, IsSound}
use Rattle.round_spec.specs.Rounds.{RoundState}
use Rattle.round_report.specs.declared.why.reason.Reason.{Reason}
use Rattle.round_report.specs.Reasons.{reasons_of, reasons_by, scratch_before, executed_places, IsBasedOnOldRun}
use Rattle.memo_spec.specs.Encoding.{AreBytes, memo}
use Rattle.rerun_spec.specs.Encoded.{IsEncodedPast}
use Rattle.propagate.specs.Consistency.{IsOfMap}
use Rattle.report_spec.specs.declared.Entry.{Entry}
use Rattle.report_spec.specs.Report.{ReportData, no_extras}
use Rattle.rerun_spec.specs.Inputs.{AreShort}
use Rattle.rerun_spec.specs.Rounds.{Found, Beginning, IsMade, IsWatched, with_input}
use Rattle.rerun_spec.specs.Reports.{all_exit, all_made_exit, all_executed}
use Rattle.plain_machine.specs.declared.replaying.Outcome.{Outcome}
use Rattle.round_report.specs.Replay.{replay_text}
use Rattle.ith_host.specs.World.{World}
use Rattle.ith_words.specs.Words.{Text, Line, Replays, ReplayLine}
use Rattle.ith_commands.specs.declared.plan.Plan.{Plan as Planned}
use Rattle.ith_commands.specs.declared.plan.Beginning.{Beginning as Begun}
use Rattle.ith_commands.specs.Files.{files_named, Reads}
use Rattle.ith_commands.specs.Contents.{Plan, IsPlan, ReplayContents, WasReplayRead, replay_setup_of, IsGeneratedPlan}
use Rattle.ith_commands.specs.Rounds.{rounds_of}
use Rattle.ith_commands.specs.Counting.{Work, IsCounted, turns_for}
use Rattle.ith_commands.specs.Explaining.{explained_round, why_of}
use Rattle.ith_commands.specs.Ends.{Prints, PrintsAndKeeps, IsKeptWithin, texts_of, last_history_of, generated_text}

-- A beginning in code, as one of the definitions.
abbrev pub beginning_said : Begun → Beginning
beginning_said b =
    record { number = b.number; past = option_map arc_value b.past; setup = b.setup; asked = b.asked }

-- A plan in code, as one of the definitions.
abbrev pub plan_said : Planned → Plan
plan_said p = record { beginning = beginning_said p.beginning; inputs = p.inputs }

-- A plan whose rounds can be made: there is an input; each is as short as an input may be; the rounds can be numbered;
-- and the history that the first is based on, if there is one, is of the same page map.
pub record CanBePlayed (p : Plan) : Type 0 where
  pub some : 0 < length p.inputs
  pub short : AreShort p.inputs
  pub few : p.beginning.number + length p.inputs < 2 ^ 64
  pub map : IsOfMap p.beginning.past p.beginning.setup

-- A plan whose executable and inputs are bytes, and whose history, if there is one, can be encoded.
pub record CanBeEncoded (p : Plan) : Type 0 where
  pub valid : IsSetup p.beginning.setup
  pub elf : AreBytes p.beginning.setup.elf
  pub inputs : All AreBytes p.inputs
  pub past : IsEncodedPast p.beginning.past p.beginning.setup

-- This is a plan of a command line, whose rounds can be made and encoded; all files of the command line were read for
-- it.
pub record IsPrepared (line : Line) (before after : World) (p : Plan) : Type 0 where
  pub is : IsPlan line before p
  pub playable : CanBePlayed p
  pub encoded : CanBeEncoded p
  pub reads : Reads (files_named line) before after

-- This many workers found these schedules of the first rounds of a plan, one of each, which were watched if the
-- progress is requested.
pub record AreFound (workers : ℕ) (p : Plan) (found : List Found) : Type 0 where
  pub few : length found ≤ length p.inputs
  pub made : All (IsMade workers) (rounds_of p found)
  pub watched : All (IsWatched workers) (rounds_of p found)
  pub counted : All (IsCounted workers) (rounds_of p found)

-- This many workers made all rounds of a plan, and no other: the counts rose by these rounds and their turns; exactly
-- the reports of these rounds were printed; whether each ended by exit, and the history of the last one.
pub record IsPlayed (workers : ℕ) (p : Plan) (before after : World) (earlier later : Work) (exits : Bool) (history : History)
    : Type 0
  where
    pub found : List Found
    pub made : AreFound workers p found
    pub all : length found ≡ length p.inputs
    pub rounds : later.rounds ≡ earlier.rounds + length found
    pub turns : later.turns ≡ earlier.turns + turns_for found
    pub prints : Prints before after (concat (texts_of p found))
    pub are_exits : all_made_exit (rounds_of p found) ≡ exits
    pub is_last : history ≡ last_history_of p found

-- This many workers made all rounds of a plan, and no other: the counts rose by these rounds and their turns; exactly
-- the reports of these rounds were printed, and the memo of the last one was written, if it has a name; and whether
-- each ended by exit.
pub record IsCarriedOut (name : Option Text) (workers : ℕ) (p : Plan) (before after : World) (earlier later : Work) (exits : Bool)
    : Type 0
  where
    pub found : List Found
    pub made : AreFound workers p found
    pub all : length found ≡ length p.inputs
    pub rounds : later.rounds ≡ earlier.rounds + length found
    pub turns : later.turns ≡ earlier.turns + turns_for found
    pub keeps : PrintsAndKeeps name (memo (last_history_of p found)) before after (concat (texts_of p found))
    pub within : IsKeptWithin name (memo (last_history_of p found))
    pub are_exits : all_made_exit (rounds_of p found) ≡ exits

-- The request of a `replay` command: all its files were read, the executable is accepted, this is the setup, and this
-- is the text of the schedule.
pub record IsAskedReplay (line : ReplayLine) (before after : World) (setup : Setup) (text : List ℕ) : Type 0 where
  pub contents : ReplayContents
  pub read : WasReplayRead line before contents
  pub is_setup : setup ≡ replay_setup_of line contents
  pub is_text : text ≡ contents.schedule
  pub reads : Reads (files_named (Replays line)) before after

-- The data of the report on a schedule of these entries, by its outcome.
abbrev pub data_of_outcome : List Entry → Outcome → ReportData
data_of_outcome entries o =
    record {
      ending = Some o.ending;
      schedule = entries;
      extras = no_extras;
      instructions = o.instructions;
      worker_steps = [];
      memory = o.memory;
      output = o.output.items;
    }

-- The text that reports the outcome of a schedule.
abbrev pub ReportsReplay : List ℕ → Outcome → List ℕ → Type 0
ReportsReplay threads o text = text ≡ replay_text (data_of_outcome (all_executed threads) o)

-- A setup is this one with the next of some inputs, which is removed from them.
pub record IsWithNext (s : Setup) (before after : List (List ℕ)) (next : Setup) : Type 0 where
  pub input : List ℕ
  pub taken : before ≡ input ∷ after
  pub is : next ≡ with_input s input

-- This is the first round of a plan, as one worker makes it.
pub record IsFirstRound (p : Plan) (w : RoundState) : Type 0 where
  pub input : List ℕ
  pub later : List (List ℕ)
  pub first : p.inputs ≡ input ∷ later
  pub is : w ≡ explained_round p.beginning input

-- A text says why the executed steps of a round were executed. Each of them has a reason, and no other step has, if the
-- history that the round is based on, if any, is coherent and of the round's program and fuel. If it is sound, or if
-- there is none, the reasons are those of the machine from scratch.
pub record GivesReasons (w : RoundState) (text : List ℕ) : Type 0 where
  pub is_text : text ≡ why_of w
  pub each :
      IsBasedOnOldRun w.past w.setup → map (λ (r : Reason). r.step) (reasons_of w) ≡ executed_places w.schedule
  pub scratch : IsSound w.past w.setup → reasons_of w ≡ reasons_by (scratch_before w) w

-- A text says why the executed steps of the first round of a plan were executed, as one worker makes it. Each of them
-- has a reason, and no other step has, if the history that the round is based on, if any, is coherent and of the
-- round's program and fuel. If it is sound, or if there is none, the reasons are those of the machine from scratch.
pub record ReportsReasons (p : Plan) (text : List ℕ) : Type 0 where
  pub input : List ℕ
  pub later : List (List ℕ)
  pub first : p.inputs ≡ input ∷ later
  pub is_text : text ≡ why_of (explained_round p.beginning input)
  pub each :
      IsBasedOnOldRun p.beginning.past (with_input p.beginning.setup input)
      → map (λ (r : Reason). r.step) (reasons_of (explained_round p.beginning input))
      ≡ executed_places (explained_round p.beginning input).schedule
  pub scratch :
      IsSound p.beginning.past (with_input p.beginning.setup input)
      → reasons_of (explained_round p.beginning input)
      ≡ reasons_by (scratch_before (explained_round p.beginning input)) (explained_round p.beginning input)

-- This many workers made both rounds of the plan of `gen` for a number, and no other: the counts rose by
-- these rounds and their turns; the text on both, and whether each ended by exit.
pub record AreTheGenerated (workers number : ℕ) (earlier later : Work) (text : List ℕ) (exits : Bool) : Type 0 where
  pub plan : Plan
  pub is_plan : IsGeneratedPlan number plan
  pub playable : CanBePlayed plan
  pub encoded : CanBeEncoded plan
  pub found : List Found
  pub made : AreFound workers plan found
  pub all : length found ≡ length plan.inputs
  pub rounds : later.rounds ≡ earlier.rounds + length found
  pub turns : later.turns ≡ earlier.turns + turns_for found
  pub is_text : text ≡ generated_text number (rounds_of plan found)
  pub are_exits : all_exit (rounds_of plan found) ≡ exits
