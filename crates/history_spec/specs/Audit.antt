-- Audits: which record of a history is the first that isn't as the machine makes it, and how many turns it takes to
-- see.
use Rattle.std.specs.Prelude.{◌≡◌, ℕ, zero, suc, ◌+◌, ◌<◌, true, false, ◌&&◌, if◌then◌else◌, List, [], ◌∷◌, length, Option, Some, None, is_none, is_some}
use Rattle.thunk_spec.specs.Record.{Record}
use Rattle.machine_spec.specs.Machine.{Machine}
use Rattle.machine_spec.specs.Step.{apply, fits, can_step}
use Rattle.machine_spec.specs.Schedule.{record_of}
use Rattle.machine_spec.specs.Setup as setup
use Rattle.history_spec.specs.History.{History, IsHonest}

-- A record as the machine makes it: its thread may make a step, and this is the record of that step.
pub record IsMade (m : Machine) (r : Record) : Type 0 where
  pub can : can_step m r.thread ≡ true
  pub made : r ≡ record_of m r.thread

-- The place of the first of some records that isn't as the machine makes it, after those before it were applied one
-- after the other. If all are, it is the place behind the last if no end comes after them, and none if an end does.
abbrev pub IsFirstFalseFrom : Machine → List Record → Option ℕ → Type 0
IsFirstFalseFrom m [] None = is_some m.ending ≡ true
IsFirstFalseFrom m [] (Some zero) = is_some m.ending ≡ false
IsFirstFalseFrom m [] (Some (suc i)) = ⊥
IsFirstFalseFrom m (r ∷ rs) None = IsMade m r × IsFirstFalseFrom (apply m r) rs None
IsFirstFalseFrom m (r ∷ rs) (Some zero) = IsMade m r → ⊥
IsFirstFalseFrom m (r ∷ rs) (Some (suc i)) = IsMade m r × IsFirstFalseFrom (apply m r) rs (Some i)

-- The same of all records of a history, from the machine on that its setup starts as.
abbrev pub IsFirstFalse : History → Option ℕ → Type 0
IsFirstFalse h place = IsFirstFalseFrom (setup.first h.setup) h.records place

-- What an audit says of a coherent history: that it is honest, or that it isn't and which of its records is the first
-- false one.
abbrev pub IsVerdict : History → Option ℕ → Type 0
IsVerdict h None = IsHonest h
IsVerdict h (Some place) = (IsHonest h → ⊥) × ((place < length h.records) × IsFirstFalse h (Some place))

-- How many turns the thunks of records make, each executed after those before it were applied, up to the first record
-- that can't be applied.
abbrev pub turns_from : Machine → List Record → ℕ
turns_from m [] = 0
turns_from m (r ∷ rs) =
    if is_none m.ending && fits m r then (record_of m r.thread).kept.count + turns_from (apply m r) rs else 0

-- The same of all records of a history.
abbrev pub turns_of : History → ℕ
turns_of h = turns_from (setup.first h.setup) h.records
