-- How a call of the program may end: for each status what was read, what was printed, what is unchanged, and the cause.
use Rattle.std.specs.Prelude.{◌≡◌, ◌≢◌, ℕ, ◌<◌, ◌≤◌, Bool, true, false, ◌⊎◌, List, [], ◌∷◌, ◌++◌, All, IfSome, length, map, take, slice_get, codes, decimal, Option, Some, None, Ok, Err}
use Rattle.std.specs.List.{concat}
use Rattle.std.specs.Io.KnownBytes.{Appends}
use Rattle.ith_host.specs.World.{World, Rose, Stays, AsksNothing, Holds}
use Rattle.elf_spec.specs.Image.{is_image}
use Rattle.machine_spec.specs.Setup.{Setup, scratch, is_permitted, is_complete}
use Rattle.history_spec.specs.History.{History}
use Rattle.memo_spec.specs.declared.Refusal.{Refusal as MemoRefusal}
use Rattle.memo_spec.specs.declared.TheConstants.{MOST_MEMO_BYTES}
use Rattle.memo_spec.specs.Encoding.{memo}
use Rattle.memo_spec.specs.Reading.{reading}
use Rattle.history_spec.specs.Audit.{IsVerdict, turns_of}
use Rattle.memo_reports.specs.AuditText.{audit_text}
use Rattle.memo_reports.specs.Listing.{listing}
use Rattle.memo_reports.specs.RacesText.{races_listing}
use Rattle.rerun_spec.specs.Inputs.{Refusal, IsFirstRefused}
use Rattle.plain_machine.specs.Replaying.{IsFirstForbidden}
use Rattle.report_spec.specs.Text.{line as text_line}
use Rattle.round_report.specs.Replay.{replay_of}
use Rattle.round_report.specs.Short.{short_of}
use Rattle.rerun_spec.specs.Rounds.{Found, Round, IsMade, IsWatched, last_history}
use Rattle.rerun_spec.specs.Reports.{is_exit, all_exit, made_reports, all_made_exit}
use Rattle.schedule_list.specs.Schedule.{Says}
use Rattle.ith_words.specs.Words.{Text, Line, Runs, Reruns, Replays, Shows, Explains, FindsRaces, Audits, Generates, RunLine, RerunLine, ReplayLine, ShowLine, ExplainLine, RacesLine, AuditLine, GenerateLine}
use Rattle.ith_commands.specs.declared.racing.TheConstants.{MOST_RACES}
use Rattle.ith_commands.specs.declared.status.Status.{Status}
use Rattle.ith_commands.specs.declared.status.Status.TheVariants as status
use Rattle.ith_commands.specs.Files.{Named, files_named, AsksForFiles, AsksForSome, StopsAt, FailedToRead, IsLong}
use Rattle.ith_commands.specs.Contents.{AreLists, Contents, AreContents, WasRead, ReplayContents, AreReplayContents, WasReplayRead, replay_setup_of, CanBeReplayed, IsMemoContent, IsMemoOf, IsRemembered, Plan, IsPlan, as_rerun, as_show, workers_of}
use Rattle.ith_commands.specs.Rounds.{rounds_of, BeginsHonestly, ArePromised, CanBeKept}
use Rattle.ith_commands.specs.Explaining.{explained_round, AreTheReasons, why_of}
use Rattle.ith_commands.specs.Statuses.{code_of}

-- The plan of a command line's rounds, the schedules that its workers found of the first of them, and the promises on
-- these rounds: this many workers made each of them; if the progress is requested, each report states what was read of
-- it, of which the last number is how many steps the round has; they are from scratch if they begin with no history or
-- with an honest one; and whatever they begin with, each has an end, and its history can be encoded.
pub record HasRounds (line : Line) (before : World) : Type 0 where
  pub plan : Plan
  pub is_plan : IsPlan line before plan
  pub found : List Found
  pub few : length found ≤ length plan.inputs
  pub made : All (IsMade (workers_of line)) (rounds_of plan found)
  pub watched : All (IsWatched (workers_of line)) (rounds_of plan found)
  pub promised : BeginsHonestly plan.beginning → ArePromised (workers_of line) (rounds_of plan found)
  pub kept : All CanBeKept (rounds_of plan found)

-- All rounds of a command line were made.
abbrev pub HasAll : (line : Line) (before : World) → HasRounds line before → Type 0
HasAll line before has = length has.found ≡ length has.plan.inputs

-- The reports of a plan's rounds as they were made, in order. If the rounds are promised to be from scratch, these are
-- the reports of the machine from scratch.
abbrev pub texts_of : Plan → List Found → List (List ℕ)
texts_of p found = made_reports (rounds_of p found)

-- The history of the last round of a plan.
abbrev pub last_history_of : Plan → List Found → History
last_history_of p found = last_history p.beginning p.inputs found

-- The name of the memo that a command line requests to write, if it does.
abbrev pub new_memo_of : Line → Option Text
new_memo_of (Runs line) = line.new_memo
new_memo_of (Reruns line) = line.new_memo
new_memo_of _ = None

-- No file changed, and these bytes were printed.
pub record Prints (before after : World) (bytes : List ℕ) : Type 0 where
  pub is_stated : after.is_stated ≡ before.is_stated
  pub files : after.files ≡ before.files
  pub printed : Appends before.printed after.printed bytes

-- These bytes were printed; this content was written to the file of the name, if there is one; and no other file
-- changed.
pub record PrintsAndKeeps (name : Option Text) (content : List ℕ) (before after : World) (bytes : List ℕ) : Type 0 where
  pub is_stated : after.is_stated ≡ before.is_stated
  pub printed : Appends before.printed after.printed bytes
  pub written : IfSome name (λ n. Holds after n content)
  pub others : (other : Text) → IfSome name (λ n. other ≢ n) → after.files other ≡ before.files other

-- A memo of this content, if it has a name, is no longer than a memo may be.
abbrev pub IsKeptWithin : Option Text → List ℕ → Type 0
IsKeptWithin name content = IfSome name (λ n. length content ≤ MOST_MEMO_BYTES)

-- All is done: exactly the reports of all rounds were printed; the memo of the last one was written, if the command
-- line requests it; and whether each round ended by exit.
pub record IsDone (line : Line) (exits : Bool) (before after : World) : Type 0 where
  pub asked : AsksForFiles (files_named line) before after
  pub has : HasRounds line before
  pub all : HasAll line before has
  pub keeps :
      PrintsAndKeeps (new_memo_of line) (memo (last_history_of has.plan has.found)) before after
      (concat (texts_of has.plan has.found))
  pub within : IsKeptWithin (new_memo_of line) (memo (last_history_of has.plan has.found))
  pub ends : all_made_exit (rounds_of has.plan has.found) ≡ exits

-- A fact holds of none of these files.
abbrev pub OfNone : (Named → Type 0) → List Named → Type 0
OfNone fact [] = Unit {0}
OfNone fact (file ∷ files) = (fact file → ⊥) × OfNone fact files

-- The executable is refused, and nothing was printed.
pub record IsImageRefused (line : RunLine) (before after : World) : Type 0 where
  pub asked : AsksForFiles (files_named (Runs line)) before after
  pub contents : Contents
  pub read : AreContents before line contents
  pub refused : is_image contents.elf ≡ false
  pub stays : Stays before after

-- The memo to show is refused, by this refusal, and nothing was printed.
pub record IsMemoRefused (line : ShowLine) (before after : World) : Type 0 where
  pub asked : AsksForFiles (files_named (Shows line)) before after
  pub memo : List ℕ
  pub read : IsMemoContent before line.memo memo
  pub why : MemoRefusal
  pub refused : reading memo ≡ Err why
  pub stays : Stays before after

-- The memo to rerun is refused, by this refusal, after all files were read, and nothing was printed.
pub record IsRerunMemoRefused (line : RerunLine) (before after : World) : Type 0 where
  pub asked : AsksForFiles (files_named (Reruns line)) before after
  pub memo : List ℕ
  pub read : IsMemoContent before line.memo memo
  pub lists : List (List ℕ)
  pub lists_read : AreLists before line.edits lists
  pub why : MemoRefusal
  pub refused : reading memo ≡ Err why
  pub stays : Stays before after

-- The executable is accepted, and an edit list is the first that is refused, by its place among the lists, its line and
-- why; and nothing was printed.
pub record IsListRefused (line : RunLine) (before after : World) : Type 0 where
  pub asked : AsksForFiles (files_named (Runs line)) before after
  pub contents : Contents
  pub read : WasRead line before contents
  pub place : ℕ
  pub why : Refusal
  pub refused : IsFirstRefused contents.input contents.lists place why
  pub stays : Stays before after

-- The memo is accepted, and an edit list is the first that is refused, by its place among the lists, its line and why;
-- and nothing was printed.
pub record IsRerunListRefused (line : RerunLine) (before after : World) : Type 0 where
  pub asked : AsksForFiles (files_named (Reruns line)) before after
  pub memo : List ℕ
  pub read : IsMemoContent before line.memo memo
  pub lists : List (List ℕ)
  pub lists_read : AreLists before line.edits lists
  pub history : History
  pub accepted : IsMemoOf memo history
  pub place : ℕ
  pub why : Refusal
  pub refused : IsFirstRefused history.setup.input lists place why
  pub stays : Stays before after

-- Reading one of these files failed, after those before it were read, and nothing was printed.
pub record OneUnread (files : List Named) (before after : World) : Type 0 where
  pub stops : StopsAt (FailedToRead before after) files before after
  pub stays : Stays before after

-- The same of the files that a command line names.
abbrev pub IsUnread : Line → World → World → Type 0
IsUnread line before after = OneUnread (files_named line) before after

-- One of these files is longer than its limit, after those before it were read, and nothing was printed.
pub record OneTooLarge (files : List Named) (before after : World) : Type 0 where
  pub stops : StopsAt (IsLong before) files before after
  pub stays : Stays before after

-- The same of the files that a command line names.
abbrev pub IsTooLarge : Line → World → World → Type 0
IsTooLarge line before after = OneTooLarge (files_named line) before after

-- All reports were printed, and the memo that the command line requests is longer than a memo may be: no file was
-- written.
pub record IsTooLargeToKeep (line : Line) (before after : World) : Type 0 where
  pub asked : AsksForFiles (files_named line) before after
  pub has : HasRounds line before
  pub all : HasAll line before has
  pub name : Text
  pub is_named : new_memo_of line ≡ Some name
  pub long : MOST_MEMO_BYTES < length (memo (last_history_of has.plan has.found))
  pub prints : Prints before after (concat (texts_of has.plan has.found))

-- Printing failed: the first of some texts were printed, and the first bytes of the next, any number of them.
pub record IsPrintedInPart (texts : List (List ℕ)) (before after : World) : Type 0 where
  pub cause : Rose before.print_faults after.print_faults
  pub whole : ℕ
  pub next : List ℕ
  pub is_next : slice_get texts whole ≡ Some next
  pub count : ℕ
  pub prints : Prints before after (concat (take whole texts) ++ take count next)

-- Printing failed: the reports of the first rounds were printed, and a part of that of the next one, which was made.
pub record IsUnprinted (line : Line) (before after : World) : Type 0 where
  pub asked : AsksForFiles (files_named line) before after
  pub has : HasRounds line before
  pub part : IsPrintedInPart (texts_of has.plan has.found) before after

-- All reports were printed, and writing the memo, which isn't too long, failed: the content of its file isn't stated,
-- and no other file changed.
pub record IsUnkept (line : Line) (before after : World) : Type 0 where
  pub asked : AsksForFiles (files_named line) before after
  pub has : HasRounds line before
  pub all : HasAll line before has
  pub name : Text
  pub is_named : new_memo_of line ≡ Some name
  pub within : length (memo (last_history_of has.plan has.found)) ≤ MOST_MEMO_BYTES
  pub cause : Rose (before.write_faults name) (after.write_faults name)
  pub is_stated : after.is_stated ≡ before.is_stated
  pub printed : Appends before.printed after.printed (concat (texts_of has.plan has.found))
  pub unstated : after.files name ≡ None
  pub others : (other : Text) → other ≢ name → after.files other ≡ before.files other

-- The host's memory ran out, after some of these files were read, and nothing was printed.
pub record SomeRead (files : List Named) (before after : World) : Type 0 where
  pub asked : AsksForSome files before after
  pub stays : Stays before after

-- The host's memory ran out before a round was made, and nothing was printed.
abbrev pub IsUnbegun : Line → World → World → Type 0
IsUnbegun line before after = SomeRead (files_named line) before after

-- The host's memory ran out, and the reports of the first rounds, of none to all of them, were printed; no file was
-- written.
pub record IsCutShort (line : Line) (before after : World) : Type 0 where
  pub asked : AsksForFiles (files_named line) before after
  pub has : HasRounds line before
  pub prints : Prints before after (concat (texts_of has.plan has.found))

-- Exactly the text that follows from the contents of the files of a command line was printed.
pub record PrintsText (line : Line) (Has : Type 0) (text : Has → List ℕ) (before after : World) : Type 0 where
  pub asked : AsksForFiles (files_named line) before after
  pub has : Has
  pub prints : Prints before after (text has)

-- Printing failed, and the first bytes of this text were printed, any number of them.
pub record PrintsTextInPart (line : Line) (Has : Type 0) (text : Has → List ℕ) (before after : World) : Type 0 where
  pub asked : AsksForFiles (files_named line) before after
  pub has : Has
  pub part : IsPrintedInPart (text has ∷ []) before after

-- The memo of this name is accepted, and is of this history.
pub record HasHistory (name : Text) (before : World) : Type 0 where
  pub history : History
  pub remembered : IsRemembered before name history

-- The memo is listed: exactly the lines that list its history were printed.
abbrev pub IsShown : ShowLine → World → World → Type 0
IsShown line before after =
    PrintsText (Shows line) (HasHistory line.memo before) (λ has. listing has.history) before after

-- Printing failed, and the first bytes of the lines that list the memo were printed, any number of them.
abbrev pub IsUnshown : ShowLine → World → World → Type 0
IsUnshown line before after =
    PrintsTextInPart (Shows line) (HasHistory line.memo before) (λ has. listing has.history) before after

-- The lines of the audit of a history: how many records it has, how many turns their thunks have, and the verdict.
abbrev pub audit_of : History → Option ℕ → List ℕ
audit_of h place = audit_text (length h.records) (turns_of h) place

-- The memo of this name is accepted, and this verdict of its audit is right.
pub record HasVerdict (name : Text) (place : Option ℕ) (before : World) : Type 0 where
  pub history : History
  pub remembered : IsRemembered before name history
  pub verdict : IsVerdict history place

-- A memo was audited, with this verdict, which is right: exactly the lines of the audit were printed.
abbrev pub IsAudited : AuditLine → Option ℕ → World → World → Type 0
IsAudited line place before after =
    PrintsText (Audits line) (HasVerdict line.memo place before) (λ has. audit_of has.history place) before after

-- Printing failed, and the first bytes of the lines of the audit were printed, any number of them.
abbrev pub IsUnaudited : AuditLine → World → World → Type 0
IsUnaudited line before after =
    PrintsTextInPart (Audits line) ((place : Option ℕ) × HasVerdict line.memo place before)
    (λ has. audit_of has.1.history has.0) before after

-- The executable of a `replay` command is refused, and nothing was printed.
pub record IsReplayImageRefused (line : ReplayLine) (before after : World) : Type 0 where
  pub asked : AsksForFiles (files_named (Replays line)) before after
  pub contents : ReplayContents
  pub read : AreReplayContents before line contents
  pub refused : is_image contents.elf ≡ false
  pub stays : Stays before after

-- Why a schedule is refused: a token, numbered from 0, encodes no thread; an entry, numbered from 0, isn't permitted;
-- or no end comes after the last entry.
pub data ScheduleRefusal : Type 0 where
  Token : ℕ → ScheduleRefusal
  Entry : ℕ → ScheduleRefusal
  Incomplete : ScheduleRefusal

-- The schedule of a replay is refused: by the first token of its text that encodes no thread; if there is no such
-- token, by the first entry that isn't permitted from scratch; and if all entries are permitted, since they come to no
-- end.
abbrev pub RefusesSchedule : Setup → List ℕ → ScheduleRefusal → Type 0
RefusesSchedule setup text (Token i) = Says text (Err i)
RefusesSchedule setup text (Entry i) = (threads : List ℕ) × Says text (Ok threads) × IsFirstForbidden setup threads i
RefusesSchedule setup text Incomplete =
    (threads : List ℕ) × Says text (Ok threads) × (is_permitted setup threads ≡ true)
    × (is_complete setup threads ≡ false)

-- The executable is accepted, and the schedule to replay is refused, and nothing was printed.
pub record IsScheduleRefused (line : ReplayLine) (before after : World) : Type 0 where
  pub asked : AsksForFiles (files_named (Replays line)) before after
  pub contents : ReplayContents
  pub read : WasReplayRead line before contents
  pub why : ScheduleRefusal
  pub refused : RefusesSchedule (replay_setup_of line contents) contents.schedule why
  pub stays : Stays before after

-- The replay that a command line requests: its files were read, the executable is accepted, and the schedule's tokens
-- encode these threads, which are permitted from scratch and come to an end.
pub record HasReplay (line : ReplayLine) (before : World) : Type 0 where
  pub contents : ReplayContents
  pub read : WasReplayRead line before contents
  pub threads : List ℕ
  pub can : CanBeReplayed (replay_setup_of line contents) contents.schedule threads

-- The text of a replay: the outcome of the machine from scratch under the schedule that the file encodes.
abbrev pub text_of_replay : (line : ReplayLine) (before : World) → HasReplay line before → List ℕ
text_of_replay line before has = replay_of (replay_setup_of line has.contents) has.threads

-- The schedule is replayed: exactly the text of the replay was printed; and whether the machine from scratch ended by
-- exit.
pub record IsReplayed (line : ReplayLine) (exits : Bool) (before after : World) : Type 0 where
  pub asked : AsksForFiles (files_named (Replays line)) before after
  pub has : HasReplay line before
  pub prints : Prints before after (text_of_replay line before has)
  pub ends : is_exit (scratch (replay_setup_of line has.contents) has.threads).ending ≡ exits

-- Printing failed, and the first bytes of the text of the replay were printed, any number of them.
abbrev pub IsUnreplayed : ReplayLine → World → World → Type 0
IsUnreplayed line before after =
    PrintsTextInPart (Replays line) (HasReplay line before) (text_of_replay line before) before after

-- The round that a `why` command explains: the memo and the edit list were read and accepted, which makes the plan of a
-- rerun; the list makes its one input; and the promises on the reasons why its steps were executed.
pub record HasReasons (line : ExplainLine) (before : World) : Type 0 where
  pub plan : Plan
  pub is_plan : IsPlan (Explains line) before plan
  pub input : List ℕ
  pub one : plan.inputs ≡ input ∷ []
  pub are : AreTheReasons plan.beginning input

-- The text of these reasons.
abbrev pub text_of_reasons : (line : ExplainLine) (before : World) → HasReasons line before → List ℕ
text_of_reasons line before has = why_of (explained_round has.plan.beginning has.input)

-- A `why` command is done: exactly the text of the reasons was printed.
abbrev pub IsExplained : ExplainLine → World → World → Type 0
IsExplained line before after =
    PrintsText (Explains line) (HasReasons line before) (text_of_reasons line before) before after

-- Printing failed, and the first bytes of the text of the reasons were printed, any number of them.
abbrev pub IsUnexplained : ExplainLine → World → World → Type 0
IsUnexplained line before after =
    PrintsTextInPart (Explains line) (HasReasons line before) (text_of_reasons line before) before after

-- The lines of the races of a memo's history.
abbrev pub text_of_races : (line : RacesLine) (before : World) → HasHistory line.memo before → List ℕ
text_of_races line before has = races_listing MOST_RACES has.history

-- A `races` command is done: exactly the lines of the races of the memo's history were printed.
abbrev pub IsRaced : RacesLine → World → World → Type 0
IsRaced line before after =
    PrintsText (FindsRaces line) (HasHistory line.memo before) (text_of_races line before) before after

-- Printing failed, and the first bytes of the lines of the races were printed, any number of them.
abbrev pub IsUnraced : RacesLine → World → World → Type 0
IsUnraced line before after =
    PrintsTextInPart (FindsRaces line) (HasHistory line.memo before) (text_of_races line before) before after

-- The text on the rounds of the generated guest: a line with the number, and a line for each round, of the machine from
-- scratch.
abbrev pub generated_text : ℕ → List Round → List ℕ
generated_text number rounds = text_line (codes "gen") (decimal number) ++ concat (map short_of rounds)

-- The generated guest was run: both rounds were made, exactly the text on them was printed, and whether each ended by
-- exit.
pub record IsGenerated (line : GenerateLine) (exits : Bool) (before after : World) : Type 0 where
  pub asked : AsksNothing before after
  pub has : HasRounds (Generates line) before
  pub all : HasAll (Generates line) before has
  pub prints : Prints before after (generated_text line.number (rounds_of has.plan has.found))
  pub ends : all_exit (rounds_of has.plan has.found) ≡ exits

-- Printing failed, and the first bytes of the text on both rounds were printed, any number of them.
pub record IsUngenerated (line : GenerateLine) (before after : World) : Type 0 where
  pub asked : AsksNothing before after
  pub has : HasRounds (Generates line) before
  pub all : HasAll (Generates line) before has
  pub part : IsPrintedInPart (generated_text line.number (rounds_of has.plan has.found) ∷ []) before after

-- The executable of a command line is refused.
abbrev pub RefusesImage : Line → World → World → Type 0
RefusesImage (Runs line) before after = IsImageRefused line before after
RefusesImage (Replays line) before after = IsReplayImageRefused line before after
RefusesImage _ before after = ⊥

-- The memo of a command line is refused.
abbrev pub RefusesMemo : Line → World → World → Type 0
RefusesMemo (Reruns line) before after = IsRerunMemoRefused line before after
RefusesMemo (Shows line) before after = IsMemoRefused line before after
RefusesMemo (Explains line) before after = IsRerunMemoRefused (as_rerun line) before after
RefusesMemo (FindsRaces line) before after = IsMemoRefused (as_show line.memo) before after
RefusesMemo (Audits line) before after = IsMemoRefused (as_show line.memo) before after
RefusesMemo _ before after = ⊥

-- An edit list of a command line is refused.
abbrev pub RefusesList : Line → World → World → Type 0
RefusesList (Runs line) before after = IsListRefused line before after
RefusesList (Reruns line) before after = IsRerunListRefused line before after
RefusesList (Explains line) before after = IsRerunListRefused (as_rerun line) before after
RefusesList _ before after = ⊥

-- How a command line with these files may end before it prints anything, status by status: a file isn't read or is
-- refused, or the host's memory ran out.
abbrev pub EndsBy : List Named → (image memo list : Type 0) → World → World → Status → Type 0
EndsBy files image memo list before after status.Image = image
EndsBy files image memo list before after status.Memo = memo
EndsBy files image memo list before after status.EditList = list
EndsBy files image memo list before after status.ReadFault = OneUnread files before after
EndsBy files image memo list before after status.NoMemory = SomeRead files before after
EndsBy files image memo list before after status.TooLarge = OneTooLarge files before after
EndsBy files image memo list before after _ = ⊥

-- How a command line may end before it prints anything.
abbrev pub EndsEarly : Line → World → World → Status → Type 0
EndsEarly line before after s =
    EndsBy (files_named line) (RefusesImage line before after) (RefusesMemo line before after)
    (RefusesList line before after) before after s

-- How else a `run` or `rerun` command may end, status by status.
abbrev pub RoundsEnd : Line → World → World → Status → Type 0
RoundsEnd line before after status.Finished = IsDone line true before after
RoundsEnd line before after status.Unfinished = IsDone line false before after
RoundsEnd line before after status.WriteFault = IsUnprinted line before after ⊎ IsUnkept line before after
RoundsEnd line before after status.NoMemory = IsCutShort line before after
RoundsEnd line before after status.TooLarge = IsTooLargeToKeep line before after
RoundsEnd line before after _ = ⊥

-- How a command ends whose one text was made, status by status: the text was printed, or a part of it was.
abbrev pub TextEnds : (whole part : Type 0) → Status → Type 0
TextEnds whole part status.Finished = whole
TextEnds whole part status.WriteFault = part
TextEnds whole part _ = ⊥

-- How else a `show` command may end.
abbrev pub ShowEnds : ShowLine → World → World → Status → Type 0
ShowEnds line before after s = TextEnds (IsShown line before after) (IsUnshown line before after) s

-- How else a `why` command may end; this doesn't depend on how the round ended.
abbrev pub ExplainEnds : ExplainLine → World → World → Status → Type 0
ExplainEnds line before after s = TextEnds (IsExplained line before after) (IsUnexplained line before after) s

-- How else a `races` command may end.
abbrev pub RacesEnd : RacesLine → World → World → Status → Type 0
RacesEnd line before after s = TextEnds (IsRaced line before after) (IsUnraced line before after) s

-- How else an `audit` command may end, status by status: as finished if the memo is honest, and as untrue if one of its
-- records is the first false one.
abbrev pub AuditEnds : AuditLine → World → World → Status → Type 0
AuditEnds line before after status.Finished = IsAudited line None before after
AuditEnds line before after status.WriteFault = IsUnaudited line before after
AuditEnds line before after status.Untrue = (place : ℕ) × IsAudited line (Some place) before after
AuditEnds line before after _ = ⊥

-- How else a `replay` command may end, status by status.
abbrev pub ReplayEnds : ReplayLine → World → World → Status → Type 0
ReplayEnds line before after status.Finished = IsReplayed line true before after
ReplayEnds line before after status.Unfinished = IsReplayed line false before after
ReplayEnds line before after status.WriteFault = IsUnreplayed line before after
ReplayEnds line before after status.Schedule = IsScheduleRefused line before after
ReplayEnds line before after _ = ⊥

-- How else a `gen` command may end, status by status.
abbrev pub GenerateEnds : GenerateLine → World → World → Status → Type 0
GenerateEnds line before after status.Finished = IsGenerated line true before after
GenerateEnds line before after status.Unfinished = IsGenerated line false before after
GenerateEnds line before after status.WriteFault = IsUngenerated line before after
GenerateEnds line before after _ = ⊥

-- How else a command line may end, status by status.
abbrev pub EndsLate : Line → World → World → Status → Type 0
EndsLate (Runs line) before after s = RoundsEnd (Runs line) before after s
EndsLate (Reruns line) before after s = RoundsEnd (Reruns line) before after s
EndsLate (Replays line) before after s = ReplayEnds line before after s
EndsLate (Shows line) before after s = ShowEnds line before after s
EndsLate (Explains line) before after s = ExplainEnds line before after s
EndsLate (FindsRaces line) before after s = RacesEnd line before after s
EndsLate (Audits line) before after s = AuditEnds line before after s
EndsLate (Generates line) before after s = GenerateEnds line before after s

-- Nothing was printed, no file changed, and no read was requested.
pub record DoesNothing (before after : World) : Type 0 where
  pub stays : Stays before after
  pub asked : AsksNothing before after

-- How a call may end: if the arguments aren't accepted, it does nothing; a command line ends before it prints anything,
-- or later.
abbrev pub Ends : Option Line → World → World → Status → Type 0
Ends None before after s = ((s ≡ status.Words) ⊎ (s ≡ status.NoMemory)) × DoesNothing before after
Ends (Some line) before after s = EndsEarly line before after s ⊎ EndsLate line before after s

-- An exit status is the number of a status by which the call may end.
abbrev pub Answers : Option Line → World → World → ℕ → Type 0
Answers line before after answer = (s : Status) × (answer ≡ code_of s) × Ends line before after s
