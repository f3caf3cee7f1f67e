-- How many rounds the workers of a command line make, and how many turns are executed.
use Rattle.std.specs.Prelude.{◌≡◌, ℕ, ◌+◌, ◌≤◌, List, All, Option, length, max, sum_by}
use Rattle.machine_spec.specs.Setup.{Setup, first}
use Rattle.history_spec.specs.History.{History}
use Rattle.round_spec.specs.Rounds.{RoundState}
use Rattle.propagate.specs.Executing.{executed_by, IsCostOf}
use Rattle.rerun_spec.specs.Rounds.{Found, Round, made}
use Rattle.plain_machine.specs.Replaying.{turns_from}
use Rattle.ith_host.specs.World.{World}
use Rattle.ith_words.specs.Words.{Line, Runs, Reruns, Generates, ReplayLine, ExplainLine, GenerateLine}
use Rattle.ith_commands.specs.declared.status.Status.{Status}
use Rattle.ith_commands.specs.declared.status.Status.TheVariants as status
use Rattle.ith_commands.specs.Statuses.{IfDone}
use Rattle.ith_commands.specs.Contents.{replay_setup_of, workers_of}
use Rattle.ith_commands.specs.Rounds.{rounds_of}
use Rattle.ith_commands.specs.Explaining.{explained_round}
use Rattle.ith_commands.specs.Ends.{HasRounds, HasReplay, HasReasons, IsDone, IsGenerated, IsReplayed, IsExplained}

-- The counts of the workers of a command line: how many rounds they made, and how many turns were executed for these.
pub record Work : Type 0 where
  pub rounds : ℕ
  pub turns : ℕ

-- How many rounds a command line requests of its workers: of `run` one on the input and one for each edit list; of
-- `rerun` one for each edit list, or one if there is none; of `gen` 2; and of the others none.
abbrev pub rounds_asked : Line → ℕ
rounds_asked (Runs line) = 1 + length line.edits
rounds_asked (Reruns line) = max 1 (length line.edits)
rounds_asked (Generates line) = 2
rounds_asked _ = 0

-- As many rounds were made as the command line requests, if it is done; none, if a file couldn't be read or is refused;
-- and never more than it requests.
abbrev pub MakesRounds : Line → ℕ → ℕ → Status → Type 0
MakesRounds line before after status.Finished = after ≡ before + rounds_asked line
MakesRounds line before after status.Unfinished = after ≡ before + rounds_asked line
MakesRounds line before after status.WriteFault = after ≤ before + rounds_asked line
MakesRounds line before after status.NoMemory = after ≤ before + rounds_asked line
MakesRounds line before after status.TooLarge = after ≤ before + rounds_asked line
MakesRounds line before after _ = after ≡ before

-- A counter rose by a number of turns that this many workers may execute for a round.
abbrev pub Spends : ℕ → Setup → Option History → RoundState → ℕ → ℕ → Type 0
Spends workers s past w before after = (turns : ℕ) × (after ≡ before + turns) × IsCostOf workers s past w turns

-- The turns that this many workers executed for a round are counted: one worker's are as many as its report states, and
-- without an edit there are none.
abbrev pub IsCounted : ℕ → Round → Type 0
IsCounted workers r = IsCostOf workers r.setup r.past (made r) r.found.turns

-- How many turns were executed for some rounds.
abbrev pub turns_for : List Found → ℕ
turns_for found = sum_by (λ f. f.turns) found

-- A counter rose by the turns of the rounds of a command line, each of which is counted: those of one worker are as
-- many as the reports state, and those of a round without an edit are none.
pub record SpendsTurns (line : Line) (a : World) (has : HasRounds line a) (before after : Work) : Type 0 where
  pub counted : All (IsCounted (workers_of line)) (rounds_of has.plan has.found)
  pub turns : after.turns ≡ before.turns + turns_for has.found

-- If a `run` or `rerun` command is done, the counter rose by the turns of the rounds whose reports were printed.
abbrev pub RoundsSpend : Line → World → World → Work → Work → Status → Type 0
RoundsSpend line a b before after s =
    IfDone s (λ exits. (done : IsDone line exits a b) × SpendsTurns line a done.has before after)

-- The same of a `gen` command.
abbrev pub GenerateSpends : GenerateLine → World → World → Work → Work → Status → Type 0
GenerateSpends line a b before after s =
    IfDone s (λ exits. (done : IsGenerated line exits a b) × SpendsTurns (Generates line) a done.has before after)

-- How many turns the steps of the schedule of a `replay` command have.
abbrev pub turns_of_replay : (line : ReplayLine) (a : World) → HasReplay line a → ℕ
turns_of_replay line a has = turns_from (first (replay_setup_of line has.contents)) has.threads

-- If a schedule is replayed, the counter rose by the turns of its steps.
abbrev pub ReplaySpends : ReplayLine → World → World → ℕ → ℕ → Status → Type 0
ReplaySpends line a b before after s =
    IfDone s (λ exits. (done : IsReplayed line exits a b) × (after ≡ before + turns_of_replay line a done.has))

-- How many turns the executed steps have of the round that a `why` command explains.
abbrev pub turns_of_reasons : (line : ExplainLine) (a : World) → HasReasons line a → ℕ
turns_of_reasons line a has = executed_by (explained_round has.plan.beginning has.input)

-- If a `why` command is done, the counter rose by the turns of the executed steps.
abbrev pub ExplainSpends : ExplainLine → World → World → ℕ → ℕ → Status → Type 0
ExplainSpends line a b before after s =
    IfDone s (λ exits. (done : IsExplained line a b) × (after ≡ before + turns_of_reasons line a done.has))
