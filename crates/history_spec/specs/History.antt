-- Histories: what is kept of a finished run, when it is honest or coherent, and when a new run may be based on it.
use Rattle.std.specs.Prelude.{◌≡◌, ◌<◌, ℕ, Bool, true, ◌&&◌, ◌==◌, List, [], ◌∷◌, ◌++◌, All, length, map, find, count_by, Option, Some, None, is_none, is_some, ⊤}
use Rattle.thunk_spec.specs.Delta.{PageDelta}
use Rattle.thunk_spec.specs.Reads.{ReadPage}
use Rattle.thunk_spec.specs.Record.{Record}
use Rattle.machine_spec.specs.Machine.{Machine}
use Rattle.machine_spec.specs.Step.{apply, fits}
use Rattle.machine_spec.specs.Setup.{Setup, IsSetup, first, map_of, is_permitted, is_complete, records}

-- A history: the setup of a run, and the records of its steps in order.
pub record History : Type 0 where
  pub setup : Setup
  pub records : List Record

-- The threads of some records, in order: the schedule that they were made under.
abbrev pub threads_of_records : List Record → List ℕ
threads_of_records rs = map (λ (r : Record). r.thread) rs

abbrev pub schedule_of : History → List ℕ
schedule_of h = threads_of_records h.records

-- An honest history: its schedule is permitted and complete, and its records are those of the machine from scratch.
pub record IsHonest (h : History) : Type 0 where
  pub valid : IsSetup h.setup
  pub permitted : is_permitted h.setup (schedule_of h) ≡ true
  pub complete : is_complete h.setup (schedule_of h) ≡ true
  pub recorded : h.records ≡ records h.setup (schedule_of h)

-- The machine after records were applied one after the other.
abbrev pub applied_from : Machine → List Record → Machine
applied_from m [] = m
applied_from m (r ∷ rs) = applied_from (apply m r) rs

-- Whether each record fits the machine after those before it, and no end came before it.
abbrev pub can_apply_from : Machine → List Record → Bool
can_apply_from m [] = true
can_apply_from m (r ∷ rs) = (is_none m.ending && fits m r) && can_apply_from (apply m r) rs

-- Whether a history is coherent: applied in order, each record fits, no end comes before the last, and one comes after
-- it.
abbrev pub is_coherent : History → Bool
is_coherent h = can_apply_from (first h.setup) h.records && is_some (applied_from (first h.setup) h.records).ending

-- Two setups of one program: their executables are the same; their inputs, fuels and step limits may differ.
abbrev pub IsSameProgram : Setup → Setup → Type 0
IsSameProgram a b = a.elf ≡ b.elf

-- A run of a setup may be based on no history, or on an honest one of the same program.
abbrev pub IsSound : Option History → Setup → Type 0
IsSound None setup = ⊤
IsSound (Some h) setup = IsHonest h × IsSameProgram h.setup setup

-- A run of a setup may be based on this history, if there is one: the setup may be run, and the history is sound for
-- it.
pub record CanGoBy (past : Option History) (setup : Setup) : Type 0 where
  pub valid : IsSetup setup
  pub sound : IsSound past setup

-- A record whose slots, those of its read pages and of its stored bytes, are among so many pages.
pub record IsMappedIn (pages : ℕ) (r : Record) : Type 0 where
  pub reads : All (λ (p : ReadPage). p.slot < pages) r.kept.reads
  pub delta : All (λ (d : PageDelta). d.slot < pages) r.kept.delta

-- A history whose records have their slots in the page map of its setup.
abbrev pub IsMapped : History → Type 0
IsMapped h = All (IsMappedIn (length (map_of h.setup))) h.records

-- Whether a record is that of a thread's step of this number.
abbrev pub is_of : ℕ → ℕ → Record → Bool
is_of t number r = (r.thread == t) && (r.number == number)

-- The records of a history, or none if there is no history.
abbrev pub past_records : Option History → List Record
past_records None = []
past_records (Some h) = h.records

-- The record of a thread's step of this number, if there is one.
abbrev pub found : Option History → ℕ → ℕ → Option Record
found past t number = find (is_of t number) (past_records past)

-- Whether the number of each record is how many records of its thread come before it, those of the earlier threads
-- included.
abbrev pub is_numbered_after : List ℕ → List Record → Bool
is_numbered_after earlier [] = true
is_numbered_after earlier (r ∷ rs) =
    (r.number == count_by (λ t. t == r.thread) earlier) && is_numbered_after (earlier ++ r.thread ∷ []) rs

-- The same from the first record on.
abbrev pub is_numbered : List Record → Bool
is_numbered rs = is_numbered_after [] rs
