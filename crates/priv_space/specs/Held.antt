-- The touched slots of a thread's memory, each in a place of its own.
use Rattle.std.specs.Prelude.{◌≡◌, ◌<◌, ◌≤◌, ◌+◌, ◌^◌, ℕ, List, length, map, slice_index, slice_index_or, Option, Some, None, Result, IfOk}
use Rattle.std.specs.declared.alloc.AllocError.{AllocError}
use Rattle.priv_space.specs.declared.slot.Slot.{Slot}
use Rattle.priv_space.specs.declared.slots.TheConstants.{LISTED}
use Rattle.priv_space.specs.Slots.{untouched}

-- The slot in a place.
abbrev pub held_at : List Slot → ℕ → Slot
held_at held place = slice_index_or held place untouched

-- All slots, each found by its place.
abbrev pub all_held : List ℕ → List Slot → List Slot
all_held places held = map (held_at held) places

-- Each slot has a place among the held ones. Only place 0, which holds an untouched slot, may belong to more than one.
-- For each of the first places except place 0, the slot that has it is listed.
pub record IsHeld (listed places : List ℕ) (held : List Slot) : Type 0 where
  pub first : held_at held 0 ≡ untouched
  pub some : 0 < length held
  pub inside : (slot : ℕ) → slice_index places slot < length held
  pub apart : (a b : ℕ) → slice_index places a ≡ slice_index places b → 0 < slice_index places a → a ≡ b
  pub room : length listed ≡ LISTED
  pub owned : (place : ℕ) → 0 < place → place < length held → place < LISTED
      → slice_index places (slice_index listed place) ≡ place

-- A slot of a table of places and of what they hold.
pub record HoldsSlot (slot : ℕ) (listed places : List ℕ) (held : List Slot) : Type 0 where
  pub each : IsHeld listed places held
  pub within : slot < length places

-- The slot got a place of its own, unless there is an error. All slots are as before.
pub record PlacesSlot (slot : ℕ) (listed' places places' : List ℕ) (held held' : List Slot)
    (result : Result ℕ AllocError) : Type 0 where
  pub each : IsHeld listed' places' held'
  pub same : all_held places' held' ≡ all_held places held
  pub place : IfOk result (λ place. (place ≡ slice_index places' slot) × (0 < place))

-- A slot below a count; all slots from `from` up to it are free.
pub record IsNext (IsFree : ℕ → Type 0) (from count slot : ℕ) : Type 0 where
  pub above : from ≤ slot
  pub within : slot < count
  pub fits : slot + 1 < 2 ^ 64
  pub before : (k : ℕ) → from ≤ k → k < slot → IsFree k

-- A slot from `from` on such that all before it are free, or none if all are free.
abbrev pub FindsNext : (ℕ → Type 0) → ℕ → ℕ → Option ℕ → Type 0
FindsNext IsFree from count (Some slot) = IsNext IsFree from count slot
FindsNext IsFree from count None = (k : ℕ) → from ≤ k → IsFree k

-- The least slot, from `from` on, among the slots of the places from 1 up to a count.
pub record IsLeast (listed : List ℕ) (count from slot : ℕ) : Type 0 where
  pub place : ℕ
  pub inside : (0 < place) × (place < count)
  pub is : slot ≡ slice_index listed place
  pub above : from ≤ slot
  pub least : (other : ℕ) → 0 < other → other < count → from ≤ slice_index listed other → slot ≤ slice_index listed other

-- The least of them, or none if there is none from `from` on.
abbrev pub FindsLeast : List ℕ → ℕ → ℕ → Option ℕ → Type 0
FindsLeast listed count from (Some slot) = IsLeast listed count from slot
FindsLeast listed count from None = (place : ℕ) → 0 < place → place < count → slice_index listed place < from
