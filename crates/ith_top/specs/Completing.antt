-- The conditions under which a command line is done.
use Rattle.std.specs.Prelude.{◌≡◌, ℕ, ◌⊎◌, List, IfSome, Option, Some, None}
use Rattle.std.specs.List.{AllZip}
use Rattle.history_spec.specs.History.{History}
use Rattle.rerun_spec.specs.Inputs.{AreInputs, AreRerunInputs}
use Rattle.ith_host.specs.World.{World, Rose}
use Rattle.ith_words.specs.Words.{Text, Line, Runs, Reruns, Replays, Shows, Explains, FindsRaces, Audits, Generates, RunLine, RerunLine, ReplayLine}
use Rattle.ith_commands.specs.declared.status.Status.TheVariants as status
use Rattle.ith_commands.specs.Files.{FailedToRead, files_named}
use Rattle.ith_commands.specs.Contents.{AreLists, Contents, WasRead, ReplayContents, WasReplayRead, replay_setup_of, CanBeReplayed, IsMemoContent, IsMemoOf, as_rerun}
use Rattle.ith_commands.specs.Ends.{OfNone, new_memo_of, IsTooLargeToKeep}
use Rattle.ith_commands.specs.Statuses.{code_of}

-- The host failed at no call of the command line: no count of faults rose.
pub record HasNoFault (line : Line) (before after : World) : Type 0 where
  pub reads : OfNone (FailedToRead before after) (files_named line)
  pub prints : Rose before.print_faults after.print_faults → ⊥
  pub writes : IfSome (new_memo_of line) (λ name. Rose (before.write_faults name) (after.write_faults name) → ⊥)

-- The host states these contents of the edit lists of these names.
abbrev pub AreStated : World → List Text → List (List ℕ) → Type 0
AreStated before names lists = AllZip (λ name list. before.files name ≡ Some list) names lists

-- The contents of the files of a `run` command are stated and within their limits, and the executable and the edit
-- lists are accepted.
pub record AreAccepted (line : RunLine) (before : World) : Type 0 where
  pub contents : Contents
  pub elf : before.files line.elf ≡ Some contents.elf
  pub input : before.files line.input ≡ Some contents.input
  pub lists : AreStated before line.edits contents.lists
  pub read : WasRead line before contents
  pub inputs : List (List ℕ)
  pub edited : AreInputs contents.input contents.lists inputs

-- The content of a memo is stated, within its limit, and accepted.
pub record IsAcceptedMemo (name : Text) (before : World) : Type 0 where
  pub memo : List ℕ
  pub stated : before.files name ≡ Some memo
  pub read : IsMemoContent before name memo
  pub history : History
  pub accepted : IsMemoOf memo history

-- The memo of a `rerun` command is accepted, and the contents of its edit lists are stated, within their limit, and
-- accepted.
pub record AreRerunAccepted (line : RerunLine) (before : World) : Type 0 where
  pub memo : IsAcceptedMemo line.memo before
  pub lists : List (List ℕ)
  pub lists_stated : AreStated before line.edits lists
  pub lists_read : AreLists before line.edits lists
  pub inputs : List (List ℕ)
  pub edited : AreRerunInputs memo.history.setup.input lists inputs

-- The contents of the files of a `replay` command are stated and within their limits; the executable is accepted; and
-- the schedule encodes threads that are permitted from scratch and come to an end.
pub record IsReplayAccepted (line : ReplayLine) (before : World) : Type 0 where
  pub contents : ReplayContents
  pub elf : before.files line.elf ≡ Some contents.elf
  pub input : before.files line.input ≡ Some contents.input
  pub schedule : before.files line.schedule ≡ Some contents.schedule
  pub read : WasReplayRead line before contents
  pub threads : List ℕ
  pub can : CanBeReplayed (replay_setup_of line contents) contents.schedule threads

-- The reports of all rounds were printed, and the memo that the command line requests was written, unless that would be
-- too long; or the host's memory ran out.
abbrev pub IsCompleted : Line → World → World → ℕ → Type 0
IsCompleted line before after answer =
    (answer ≡ code_of status.Finished)
    ⊎ ((answer ≡ code_of status.Unfinished)
    ⊎ ((answer ≡ code_of status.NoMemory)
    ⊎ ((answer ≡ code_of status.TooLarge) × IsTooLargeToKeep line before after)))

-- The text of a `replay` or `gen` command was printed whole, or the host's memory ran out.
abbrev pub IsReported : ℕ → Type 0
IsReported answer =
    (answer ≡ code_of status.Finished) ⊎ ((answer ≡ code_of status.Unfinished) ⊎ (answer ≡ code_of status.NoMemory))

-- The text of a `show`, `why` or `races` command was printed whole, or the host's memory ran out.
abbrev pub IsListed : ℕ → Type 0
IsListed answer = (answer ≡ code_of status.Finished) ⊎ (answer ≡ code_of status.NoMemory)

-- The verdict of a memo was printed whole, or the host's memory ran out.
abbrev pub IsJudged : ℕ → Type 0
IsJudged answer =
    (answer ≡ code_of status.Finished) ⊎ ((answer ≡ code_of status.Untrue) ⊎ (answer ≡ code_of status.NoMemory))

-- If its files are stated and accepted and the host fails at no call, a command line is done, or the host's memory ran
-- out.
abbrev pub Completes : Option Line → World → World → ℕ → Type 0
Completes None before after answer = Unit {0}
Completes (Some (Runs line)) before after answer =
    AreAccepted line before → HasNoFault (Runs line) before after → IsCompleted (Runs line) before after answer
Completes (Some (Reruns line)) before after answer =
    AreRerunAccepted line before → HasNoFault (Reruns line) before after → IsCompleted (Reruns line) before after answer
Completes (Some (Replays line)) before after answer =
    IsReplayAccepted line before → HasNoFault (Replays line) before after → IsReported answer
Completes (Some (Generates line)) before after answer = HasNoFault (Generates line) before after → IsReported answer
Completes (Some (Shows line)) before after answer =
    IsAcceptedMemo line.memo before → HasNoFault (Shows line) before after → IsListed answer
Completes (Some (Explains line)) before after answer =
    AreRerunAccepted (as_rerun line) before → HasNoFault (Explains line) before after → IsListed answer
Completes (Some (FindsRaces line)) before after answer =
    IsAcceptedMemo line.memo before → HasNoFault (FindsRaces line) before after → IsListed answer
Completes (Some (Audits line)) before after answer =
    IsAcceptedMemo line.memo before → HasNoFault (Audits line) before after → IsJudged answer
