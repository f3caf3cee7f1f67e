-- The contents of the files of a command line, and the rounds that it requests with them.
use Rattle.std.specs.Prelude.{◌≡◌, ℕ, ◌≤◌, true, false, List, [], ◌∷◌, length, unwrap_or, None, Ok}
use Rattle.std.specs.List.{AllZip}
use Rattle.elf_spec.specs.declared.TheConstants.{MOST_ELF_BYTES}
use Rattle.elf_spec.specs.Image.{is_image}
use Rattle.edit_spec.specs.declared.TheConstants.{MOST_LIST_BYTES}
use Rattle.machine_spec.specs.declared.TheConstants.{MOST_INPUT_BYTES}
use Rattle.machine_spec.specs.Limits.{Limits}
use Rattle.machine_spec.specs.Setup.{Setup, is_permitted, is_complete}
use Rattle.history_spec.specs.History.{History}
use Rattle.memo_spec.specs.declared.TheConstants.{MOST_MEMO_BYTES}
use Rattle.memo_spec.specs.Reading.{IsTaken}
use Rattle.rerun_spec.specs.Inputs.{AreInputs, AreRerunInputs}
use Rattle.rerun_spec.specs.Rounds.{Beginning, asked_by, nothing_asked, from_scratch, after_memo}
use Rattle.schedule_list.specs.declared.TheConstants.{MOST_SCHEDULE_BYTES}
use Rattle.schedule_list.specs.Schedule.{Says}
use Rattle.rv_asm.specs.Items.{items_bytes}
use Rattle.rv_asm.specs.Guest.{IsGuest}
use Rattle.guest_gen.specs.declared.guest.TheConstants.{BASE, ITEMS, ZEROS}
use Rattle.guest_gen.specs.Generated.{input_of, list_of}
use Rattle.ith_host.specs.World.{World, IsContent}
use Rattle.ith_words.specs.Words.{Text, Line, Runs, Reruns, Explains, Generates, RunLine, RerunLine, ReplayLine, ShowLine, ExplainLine, default_fuel, default_limit}

-- Contents of edit lists, each equal to the one that the host states, if it does, and within its limit.
abbrev pub AreLists : World → List Text → List (List ℕ) → Type 0
AreLists before names lists =
    AllZip (λ name list. IsContent before name list × (length list ≤ MOST_LIST_BYTES)) names lists

-- The contents of the files of a `run` command.
pub record Contents : Type 0 where
  pub elf : List ℕ
  pub input : List ℕ
  pub lists : List (List ℕ)

-- Contents, each equal to the one that the host states, if it does, and within its limit.
pub record AreContents (before : World) (line : RunLine) (c : Contents) : Type 0 where
  pub elf : IsContent before line.elf c.elf
  pub elf_within : length c.elf ≤ MOST_ELF_BYTES
  pub input : IsContent before line.input c.input
  pub input_within : length c.input ≤ MOST_INPUT_BYTES
  pub lists : AreLists before line.edits c.lists

-- The files of a `run` command were read, and the executable is accepted.
pub record WasRead (line : RunLine) (before : World) (c : Contents) : Type 0 where
  pub contents : AreContents before line c
  pub accepted : is_image c.elf ≡ true

-- The setup of a `run` command and the contents of its files.
abbrev pub setup_of : RunLine → Contents → Setup
setup_of line c = record { elf = c.elf; input = c.input; fuel = line.fuel; limit = line.limit }

-- The contents of the files of a `replay` command.
pub record ReplayContents : Type 0 where
  pub elf : List ℕ
  pub input : List ℕ
  pub schedule : List ℕ

-- Contents of these files, each equal to the one that the host states, if it does, and within its limit.
pub record AreReplayContents (before : World) (line : ReplayLine) (c : ReplayContents) : Type 0 where
  pub elf : IsContent before line.elf c.elf
  pub elf_within : length c.elf ≤ MOST_ELF_BYTES
  pub input : IsContent before line.input c.input
  pub input_within : length c.input ≤ MOST_INPUT_BYTES
  pub schedule : IsContent before line.schedule c.schedule
  pub schedule_within : length c.schedule ≤ MOST_SCHEDULE_BYTES

-- The files of a `replay` command were read, and the executable is accepted.
pub record WasReplayRead (line : ReplayLine) (before : World) (c : ReplayContents) : Type 0 where
  pub contents : AreReplayContents before line c
  pub accepted : is_image c.elf ≡ true

-- The setup of a `replay` command and the contents of its files.
abbrev pub replay_setup_of : ReplayLine → ReplayContents → Setup
replay_setup_of line c = record { elf = c.elf; input = c.input; fuel = line.fuel; limit = line.limit }

-- A text encodes the threads of a schedule that is permitted from scratch and comes to an end.
pub record CanBeReplayed (setup : Setup) (text threads : List ℕ) : Type 0 where
  pub said : Says text (Ok threads)
  pub permitted : is_permitted setup threads ≡ true
  pub complete : is_complete setup threads ≡ true

-- The content of a memo, equal to the one that the host states, if it does, and within its limit.
pub record IsMemoContent (before : World) (name : Text) (bytes : List ℕ) : Type 0 where
  pub content : IsContent before name bytes
  pub within : length bytes ≤ MOST_MEMO_BYTES

-- Bytes that are accepted as a memo of a history: they encode it, in version 1 it isn't from before the standard
-- extension M or reader-writer locks, and it is coherent.
abbrev pub IsMemoOf : List ℕ → History → Type 0
IsMemoOf bytes h = IsTaken bytes h

-- The memo of this name was read, and is accepted as that of this history.
pub record IsRemembered (before : World) (name : Text) (h : History) : Type 0 where
  pub memo : List ℕ
  pub read : IsMemoContent before name memo
  pub accepted : IsMemoOf memo h

-- The rounds that a command line requests: how the first begins, and the input of each.
pub record Plan : Type 0 where
  pub beginning : Beginning
  pub inputs : List (List ℕ)

-- The plan of a `run` command: its files were read, and the executable is accepted; round 0 is from scratch, on the
-- input, and each edit list makes the input of one more round.
pub record IsRunPlan (line : RunLine) (before : World) (p : Plan) : Type 0 where
  pub contents : Contents
  pub read : WasRead line before contents
  pub beginning : p.beginning ≡ from_scratch (setup_of line contents) (asked_by line.reach line.progress)
  pub edited : AreInputs contents.input contents.lists p.inputs

-- The limits of a `rerun` command: each is that of its option, or the memo's if it has no such option.
abbrev pub limits_for : RerunLine → History → Limits
limits_for line h =
    record { fuel = unwrap_or line.fuel h.setup.fuel; steps = unwrap_or line.limit h.setup.limit }

-- The plan of a `rerun` command: its files were read, and the memo is accepted; round 1 is based on the history that
-- the memo encodes, with the limits of the command; and each edit list makes the input of a round, or there is one
-- round on the memo's input.
pub record IsRerunPlan (line : RerunLine) (before : World) (p : Plan) : Type 0 where
  pub memo : List ℕ
  pub read : IsMemoContent before line.memo memo
  pub lists : List (List ℕ)
  pub lists_read : AreLists before line.edits lists
  pub history : History
  pub accepted : IsMemoOf memo history
  pub beginning : p.beginning ≡ after_memo history (limits_for line history) (asked_by line.reach line.progress)
  pub edited : AreRerunInputs history.setup.input lists p.inputs

-- The rerun that a `why` command explains: one round after the edit list, by one worker and with the memo's limits.
abbrev pub as_rerun : ExplainLine → RerunLine
as_rerun line =
    record {
      memo = line.memo;
      edits = line.edits ∷ [];
      workers = 1;
      fuel = None;
      limit = None;
      new_memo = None;
      reach = false;
      progress = false;
    }

-- The `show` command for the memo of this name.
abbrev pub as_show : Text → ShowLine
as_show name = record { memo = name }

-- The plan of `gen` for a number: round 0 of the generated guest is from scratch, on the generated input, with the
-- default limits; and round 1 is on this input after the generated edit.
pub record IsGeneratedPlan (number : ℕ) (p : Plan) : Type 0 where
  pub elf : List ℕ
  pub guest : IsGuest BASE (items_bytes ITEMS) ZEROS elf
  pub beginning : p.beginning ≡ from_scratch
      (record { elf = elf; input = input_of number; fuel = default_fuel; limit = default_limit }) nothing_asked
  pub edited : AreInputs (input_of number) (list_of number ∷ []) p.inputs

-- A plan of a command line. The commands `replay`, `show`, `audit` and `races` have none.
abbrev pub IsPlan : Line → World → Plan → Type 0
IsPlan (Runs line) before p = IsRunPlan line before p
IsPlan (Reruns line) before p = IsRerunPlan line before p
IsPlan (Explains line) before p = IsRerunPlan (as_rerun line) before p
IsPlan (Generates line) before p = IsGeneratedPlan line.number p
IsPlan _ before p = ⊥

-- How many workers a command line with a plan has.
abbrev pub workers_of : Line → ℕ
workers_of (Runs line) = line.workers
workers_of (Reruns line) = line.workers
workers_of (Explains line) = 1
workers_of (Generates line) = line.workers
workers_of _ = 0
