-- The world outside of the program, and what a call may do to it. Names are their bytes.
use Rattle.std.specs.Prelude.{◌≡◌, ◌≢◌, ℕ, ◌+◌, ◌-◌, ◌^◌, ◌≤◌, min, Bool, IsTrue, List, ◌++◌, take, Option, Some, IfSome}
use Rattle.std.specs.Io.KnownBytes.{Appends}

-- The outside: whether it states what was written to it; the content of the file of each name, and the printed bytes,
-- if they are stated; the names that reads requested, in order; how many reads and writes of each name failed, and how
-- many prints.
pub record World : Type 0 where
  pub is_stated : Bool
  pub files : List ℕ → Option (List ℕ)
  pub printed : Option (List ℕ)
  pub asked : List (List ℕ)
  pub read_faults : List ℕ → ℕ
  pub write_faults : List ℕ → ℕ
  pub print_faults : ℕ

-- A count rose: it is greater than before, or at its type's maximum.
abbrev pub Rose : ℕ → ℕ → Type 0
Rose before after = min (before + 1) (2 ^ 64 - 1) ≤ after

-- No count of faults is lower than before.
pub record NoneFell (before after : World) : Type 0 where
  pub reads : (name : List ℕ) → before.read_faults name ≤ after.read_faults name
  pub writes : (name : List ℕ) → before.write_faults name ≤ after.write_faults name
  pub prints : before.print_faults ≤ after.print_faults

-- The files and the printed bytes are as before.
pub record Stays (before after : World) : Type 0 where
  pub is_stated : after.is_stated ≡ before.is_stated
  pub files : after.files ≡ before.files
  pub printed : after.printed ≡ before.printed

-- All files but that of one name, and the printed bytes, are as before.
pub record StaysBut (name : List ℕ) (before after : World) : Type 0 where
  pub is_stated : after.is_stated ≡ before.is_stated
  pub others : (other : List ℕ) → other ≢ name → after.files other ≡ before.files other
  pub printed : after.printed ≡ before.printed

-- These names were requested, in order, and no other.
abbrev pub AsksFor : List (List ℕ) → World → World → Type 0
AsksFor names before after = after.asked ≡ before.asked ++ names

-- No name was requested.
abbrev pub AsksNothing : World → World → Type 0
AsksNothing before after = after.asked ≡ before.asked

-- The file of a name has this content, if its content is stated.
abbrev pub IsContent : World → List ℕ → List ℕ → Type 0
IsContent world name content = IfSome (world.files name) (λ stated. stated ≡ content)

-- The file of a name was made to hold this content, and a world that states what was written to it states this.
abbrev pub Holds : World → List ℕ → List ℕ → Type 0
Holds world name content = IsTrue world.is_stated → world.files name ≡ Some content

-- The first of the bytes, any number of them, were printed.
abbrev pub PrintedSome : World → World → List ℕ → Type 0
PrintedSome before after bytes = (count : ℕ) × Appends before.printed after.printed (take count bytes)
