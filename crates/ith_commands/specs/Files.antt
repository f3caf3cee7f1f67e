-- The files that a command line names to read, and how far a call read them.
use Rattle.std.specs.Prelude.{◌≡◌, ℕ, ◌<◌, ◌≤◌, List, [], ◌∷◌, ◌++◌, All, length, map, IfSome}
use Rattle.elf_spec.specs.declared.TheConstants.{MOST_ELF_BYTES}
use Rattle.edit_spec.specs.declared.TheConstants.{MOST_LIST_BYTES}
use Rattle.machine_spec.specs.declared.TheConstants.{MOST_INPUT_BYTES}
use Rattle.memo_spec.specs.declared.TheConstants.{MOST_MEMO_BYTES}
use Rattle.ith_host.specs.World.{World, Rose, NoneFell, Stays, AsksFor, AsksNothing}
use Rattle.schedule_list.specs.declared.TheConstants.{MOST_SCHEDULE_BYTES}
use Rattle.ith_words.specs.Words.{Text, Line, Runs, Reruns, Replays, Shows, Explains, FindsRaces, Audits, Generates}

-- A file that a command line names to read: its name, and the most bytes that it may have.
pub record Named : Type 0 where
  pub name : Text
  pub most : ℕ

-- The executable of this name.
abbrev pub elf_named : Text → Named
elf_named name = record { name = name; most = MOST_ELF_BYTES }

-- The input of this name.
abbrev pub input_named : Text → Named
input_named name = record { name = name; most = MOST_INPUT_BYTES }

-- The memo of this name.
abbrev pub memo_named : Text → Named
memo_named name = record { name = name; most = MOST_MEMO_BYTES }

-- The schedule of this name.
abbrev pub schedule_named : Text → Named
schedule_named name = record { name = name; most = MOST_SCHEDULE_BYTES }

-- The edit lists of these names.
abbrev pub lists_named : List Text → List Named
lists_named names = map (λ name. record { name = name; most = MOST_LIST_BYTES }) names

-- The files that a command line names to read, in the order in which they are read.
abbrev pub files_named : Line → List Named
files_named (Runs line) = elf_named line.elf ∷ input_named line.input ∷ lists_named line.edits
files_named (Reruns line) = memo_named line.memo ∷ lists_named line.edits
files_named (Replays line) = elf_named line.elf ∷ input_named line.input ∷ schedule_named line.schedule ∷ []
files_named (Shows line) = memo_named line.memo ∷ []
files_named (Explains line) = memo_named line.memo ∷ lists_named (line.edits ∷ [])
files_named (FindsRaces line) = memo_named line.memo ∷ []
files_named (Audits line) = memo_named line.memo ∷ []
files_named (Generates line) = []

-- Reads of these files were requested, in order, and of no other.
abbrev pub AsksForFiles : List Named → World → World → Type 0
AsksForFiles files before after = AsksFor (map (λ file. file.name) files) before after

-- Reads of these files were requested, in order, and of no other; and nothing else happened: no file changed, nothing
-- was printed, and no count of faults fell.
pub record Reads (files : List Named) (before after : World) : Type 0 where
  pub asked : AsksForFiles files before after
  pub stays : Stays before after
  pub counts : NoneFell before after

-- Nothing happened: no read was requested, no file changed, nothing was printed, and no count of faults fell.
pub record Quiet (before after : World) : Type 0 where
  pub asked : AsksNothing before after
  pub stays : Stays before after
  pub counts : NoneFell before after

-- Reading a file failed, by the count of its name.
abbrev pub FailedToRead : World → World → Named → Type 0
FailedToRead before after file = Rose (before.read_faults file.name) (after.read_faults file.name)

-- A file is longer than its limit, if its content is stated.
abbrev pub IsLong : World → Named → Type 0
IsLong before file = IfSome (before.files file.name) (λ stated. file.most < length stated)

-- A file is within its limit, if its content is stated.
abbrev pub IsWithin : World → Named → Type 0
IsWithin before file = IfSome (before.files file.name) (λ stated. length stated ≤ file.most)

-- Reads of the first of these files were requested, of none to all of them.
pub record AsksForSome (files : List Named) (before after : World) : Type 0 where
  pub first : List Named
  pub later : List Named
  pub are : files ≡ first ++ later
  pub asked : AsksForFiles first before after

-- One of these files was refused for a cause: it was requested after those before it, which are within their limits,
-- and none after it was.
pub record StopsAt (IsRefused : Named → Type 0) (files : List Named) (before after : World) : Type 0 where
  pub earlier : List Named
  pub file : Named
  pub later : List Named
  pub are : files ≡ earlier ++ file ∷ later
  pub asked : AsksForFiles (earlier ++ file ∷ []) before after
  pub within : All (IsWithin before) earlier
  pub cause : IsRefused file
