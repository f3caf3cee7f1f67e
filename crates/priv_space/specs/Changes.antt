-- What an access changes in one slot, over the view's page in it, and in all slots.
use Rattle.std.specs.Prelude.{◌≡◌, ◌<◌, ◌≤◌, ◌+◌, ◌*◌, ◌^◌, ℕ, Bool, true, List, slice_index_or, slice_set}
use Rattle.memory_spec.specs.Access.{byte_count, number_in}
use Rattle.memory_spec.specs.Pages.{allows, read_right, write_right}
use Rattle.priv_space.specs.declared.slot.Slot.{Slot}
use Rattle.priv_space.specs.declared.slot.Access.{Access}
use Rattle.priv_space.specs.Slots.{untouched, slot_shared, SharesPage, slot_bytes, slot_marks, slot_taken, IsPermitted}
use Rattle.priv_space.specs.Written.{with_number, with_marks}

-- An access inside the page of one of so many slots.
pub record IsWithin (access : Access) (count : ℕ) : Type 0 where
  pub slot : access.slot < count
  pub bytes : access.offset + byte_count access.size ≤ 4096

-- Every permission passes.
abbrev pub any : ℕ → Bool
any permission = true

-- The slot shares what it shared before. If a page might be held as before, and its permission passes, it may be held
-- as now.
pub record Keeps (may : ℕ → Bool) (page : List ℕ) (old new : Slot) : Type 0 where
  pub shared : slot_shared page new ≡ slot_shared page old
  pub permitted : (permission : ℕ) → may permission ≡ true → IsPermitted permission old → IsPermitted permission new

-- A byte of the page was taken, if its permission passes. Bytes and marks are as before.
pub record TakesByte (may : ℕ → Bool) (page : List ℕ) (old new : Slot) : Type 0 where
  pub keeps : Keeps may page old new
  pub bytes : slot_bytes page new ≡ slot_bytes page old
  pub marks : slot_marks new ≡ slot_marks old
  pub taken : slot_taken new ≡ true

-- An access took this number from the page, if its permission passes.
pub record TakesNumber (may : ℕ → Bool) (page : List ℕ) (access : Access) (number : ℕ) (old new : Slot) : Type 0 where
  pub value : number ≡ number_in (slot_bytes page old) access.offset access.size
  pub fits : number < 2 ^ (8 * byte_count access.size)
  pub takes : TakesByte may page old new

-- The page was entered: it has the bytes of any view, and one of them was taken.
pub record EntersPage (old new : Slot) : Type 0 where
  pub viewed : (page : List ℕ) → slot_bytes page old ≡ page
  pub takes : (page : List ℕ) → TakesByte any page old new

-- The lowest bytes of a value were stored to a page that may be written, and their places marked.
pub record StoresNumber (page : List ℕ) (access : Access) (value : ℕ) (old new : Slot) : Type 0 where
  pub keeps : Keeps (allows write_right) page old new
  pub bytes : slot_bytes page new ≡ with_number (slot_bytes page old) access.offset access.size value
  pub marks : slot_marks new ≡ with_marks (slot_marks old) access.offset access.size
  pub taken : slot_taken new ≡ slot_taken old

-- The bytes were stored to a copy that the thread already had: only a page that may be written has one.
pub record StoresAgain (access : Access) (value : ℕ) (old new : Slot) : Type 0 where
  pub stores : (page : List ℕ) → StoresNumber page access value old new
  pub writes : (permission : ℕ) → IsPermitted permission old → allows write_right permission ≡ true

-- An access finds this number in the slot: its page may be read, and a byte was taken from it before.
pub record HasNumber (access : Access) (number : ℕ) (slot : Slot) : Type 0 where
  pub value : (page : List ℕ) → SharesPage page slot
      → number ≡ number_in (slot_bytes page slot) access.offset access.size
  pub fits : number < 2 ^ (8 * byte_count access.size)
  pub taken : slot_taken slot ≡ true
  pub reads : (permission : ℕ) → IsPermitted permission slot → allows read_right permission ≡ true

-- One slot changed in this way, and no other.
pub record OnSlot (slot : ℕ) (Change : Slot → Slot → Type 0) (old new : List Slot) : Type 0 where
  pub others : new ≡ slice_set old slot (slice_index_or new slot untouched)
  pub change : Change (slice_index_or old slot untouched) (slice_index_or new slot untouched)
