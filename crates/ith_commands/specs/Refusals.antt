-- Why a part of a call refused, by the status that it gives.
use Rattle.std.specs.Prelude.{◌≡◌, ◌≢◌, ℕ, ◌+◌, ◌<◌, ◌≤◌, false, ◌⊎◌, List, length, take, Option, Some, None, Err, ⊤}
use Rattle.std.specs.List.{concat}
use Rattle.ith_host.specs.World.{World, Rose, NoneFell, Stays, Holds}
use Rattle.elf_spec.specs.Image.{is_image}
use Rattle.memo_spec.specs.declared.Refusal.{Refusal as MemoRefusal}
use Rattle.memo_spec.specs.declared.TheConstants.{MOST_MEMO_BYTES}
use Rattle.memo_spec.specs.Reading.{reading}
use Rattle.memo_spec.specs.Encoding.{memo}
use Rattle.machine_spec.specs.Setup.{Setup}
use Rattle.schedule_list.specs.Schedule.{Says}
use Rattle.rerun_spec.specs.Inputs.{Refusal, IsFirstRefused}
use Rattle.rerun_spec.specs.Rounds.{Found}
use Rattle.ith_words.specs.Words.{Text}
use Rattle.ith_commands.specs.declared.status.Status.{Status}
use Rattle.ith_commands.specs.declared.status.Status.TheVariants as status
use Rattle.ith_commands.specs.Files.{Named}
use Rattle.ith_commands.specs.Contents.{Plan}
use Rattle.ith_commands.specs.Ends.{Prints, IsPrintedInPart, texts_of, last_history_of, ScheduleRefusal, RefusesSchedule, EndsBy}
use Rattle.ith_commands.specs.Counting.{Work}
use Rattle.ith_commands.specs.Playing.{AreFound}

-- Why files weren't all read: which one was refused, and which reads were requested.
abbrev pub WhyUnread : List Named → World → World → Status → Type 0
WhyUnread files before after s = EndsBy files ⊥ ⊥ ⊥ before after s

-- Why no setup was made of an executable.
abbrev pub WhyNoSetup : List ℕ → Status → Type 0
WhyNoSetup elf status.Image = is_image elf ≡ false
WhyNoSetup elf status.NoMemory = ⊤
WhyNoSetup elf _ = ⊥

-- Why a memo gave no history.
abbrev pub WhyNoHistory : List ℕ → Status → Type 0
WhyNoHistory memo status.Memo = (why : MemoRefusal) × (reading memo ≡ Err why)
WhyNoHistory memo status.NoMemory = ⊤
WhyNoHistory memo _ = ⊥

-- Why edit lists made no inputs of a first input: which of them is the first that is refused.
abbrev pub WhyUnedited : List ℕ → List (List ℕ) → Status → Type 0
WhyUnedited first lists status.EditList = (place : ℕ) × (why : Refusal) × IsFirstRefused first lists place why
WhyUnedited first lists status.NoMemory = ⊤
WhyUnedited first lists _ = ⊥

-- Why the text of a schedule gave no threads: a token is the first that encodes none.
abbrev pub WhyNoThreads : List ℕ → Status → Type 0
WhyNoThreads text status.Schedule = (number : ℕ) × Says text (Err number)
WhyNoThreads text status.NoMemory = ⊤
WhyNoThreads text _ = ⊥

-- Why the text of a schedule came to no end from scratch: it is refused.
abbrev pub WhyUnreplayed : Setup → List ℕ → Status → Type 0
WhyUnreplayed setup text status.Schedule = (why : ScheduleRefusal) × RefusesSchedule setup text why
WhyUnreplayed setup text status.NoMemory = ⊤
WhyUnreplayed setup text _ = ⊥

-- Why a plan was cut short after the rounds that were found, and what was printed: their reports, or if printing
-- failed, the first of these and a part of the next one.
abbrev pub WhyCutShort : Plan → List Found → World → World → Status → Type 0
WhyCutShort p found before after status.WriteFault = IsPrintedInPart (texts_of p found) before after
WhyCutShort p found before after status.NoMemory = Prints before after (concat (texts_of p found))
WhyCutShort p found before after _ = ⊥

-- This many workers made the first rounds of a plan, from none to all of them; why no more was done, and what was
-- printed. Beside these, at most one round is counted, of which nothing is reported: the next one of the plan, if
-- memory ran out.
pub record IsPlayedInPart (workers : ℕ) (p : Plan) (before after : World) (earlier later : Work) (s : Status) : Type 0 where
  pub found : List Found
  pub made : AreFound workers p found
  pub rounds : later.rounds ≤ earlier.rounds + length found + 1
  pub most : later.rounds ≤ earlier.rounds + length p.inputs
  pub why : WhyCutShort p found before after s

-- Why a text wasn't printed whole, and what of it was.
abbrev pub WhyUnprinted : List ℕ → World → World → Status → Type 0
WhyUnprinted text before after status.WriteFault =
    Rose before.print_faults after.print_faults × ((count : ℕ) × Prints before after (take count text))
WhyUnprinted text before after status.NoMemory = Stays before after
WhyUnprinted text before after _ = ⊥

-- This content was written to the file of this name, and nothing else changed.
pub record Keeps (name : Text) (content : List ℕ) (before after : World) : Type 0 where
  pub is_stated : after.is_stated ≡ before.is_stated
  pub printed : after.printed ≡ before.printed
  pub written : Holds after name content
  pub others : (other : Text) → other ≢ name → after.files other ≡ before.files other

-- Writing a memo of this content, which isn't too long, failed: the content of its file isn't stated, and nothing else
-- changed.
pub record FailsToKeep (name : Text) (content : List ℕ) (before after : World) : Type 0 where
  pub within : length content ≤ MOST_MEMO_BYTES
  pub cause : Rose (before.write_faults name) (after.write_faults name)
  pub is_stated : after.is_stated ≡ before.is_stated
  pub printed : after.printed ≡ before.printed
  pub unstated : after.files name ≡ None
  pub others : (other : Text) → other ≢ name → after.files other ≡ before.files other

-- A memo is longer than it may be, and nothing changed.
pub record IsTooLong (content : List ℕ) (before after : World) : Type 0 where
  pub long : MOST_MEMO_BYTES < length content
  pub stays : Stays before after

-- Why a memo of this content wasn't written.
abbrev pub WhyUnkept : Text → List ℕ → World → World → Status → Type 0
WhyUnkept name content before after status.WriteFault = FailsToKeep name content before after
WhyUnkept name content before after status.NoMemory = Stays before after
WhyUnkept name content before after status.TooLarge = IsTooLong content before after
WhyUnkept name content before after _ = ⊥

-- This many workers made all rounds of a plan, and no other, and their reports were printed; and why the memo of the
-- last one, of this name, wasn't written.
pub record IsUnkeptAfter (name : Option Text) (workers : ℕ) (p : Plan) (before after : World) (earlier later : Work) (s : Status)
    : Type 0
  where
    pub found : List Found
    pub made : AreFound workers p found
    pub all : length found ≡ length p.inputs
    pub rounds : later.rounds ≡ earlier.rounds + length found
    pub between : World
    pub counts : NoneFell before between
    pub prints : Prints before between (concat (texts_of p found))
    pub kept : Text
    pub is_named : name ≡ Some kept
    pub why : WhyUnkept kept (memo (last_history_of p found)) between after s

-- Why the rounds of a plan weren't all made and printed, or the memo of this name, if there is one, wasn't written.
abbrev pub WhyUndone : Option Text → ℕ → Plan → World → World → Work → Work → Status → Type 0
WhyUndone name workers p before after earlier later s =
    IsPlayedInPart workers p before after earlier later s ⊎ IsUnkeptAfter name workers p before after earlier later s
