-- What the memory that a thread works on means to the layers above: the view that it was given, the view with the
-- thread's own stores applied, which bytes were stored, and from which pages a byte was taken.
use Rattle.std.specs.Prelude.{◌≡◌, ◌⊎◌, ℕ, ◌%◌, Bool, true, false, List, [], ◌∷◌, Option, Some, None, Result, Ok, Err, replicate, slice_index_or, slice_set}
use Rattle.memory_spec.specs.declared.Size.{Size}
use Rattle.memory_spec.specs.declared.MemoryError.{MemoryError}
use Rattle.memory_spec.specs.declared.MemoryError.TheVariants.{Access, NoMemory}
use Rattle.memory_spec.specs.Pages.{Mapped, Memory, slot_of, on_each}
use Rattle.memory_spec.specs.Stores.{StoredByte, with_stores}
use Rattle.memory_spec.specs.Access.{bytes_stored, may_store}

-- For each slot, for each place of its page: was it stored to?
abbrev pub Masks : Type 0
Masks = List (List Bool)

-- No place of a page was stored to.
unfoldable pub no_marks : List Bool
no_marks = replicate 4096 false

-- The mask of the page in a slot.
abbrev pub mask_of : Masks → ℕ → List Bool
mask_of masks slot = slice_index_or masks slot []

-- Masks after one stored byte.
unfoldable pub with_mark : List Mapped → Masks → StoredByte → Masks
with_mark map masks s =
    slice_set masks (slot_of map s.address) (slice_set (mask_of masks (slot_of map s.address)) (s.address % 4096) true)

-- Masks after stores.
abbrev pub marked : List Mapped → Masks → List StoredByte → Masks
marked map masks [] = masks
marked map masks (s ∷ stores) = marked map (with_mark map masks s) stores

-- The pages from which a byte was taken, by slot, after bytes at these addresses were taken too.
abbrev pub taken_at : List Mapped → List Bool → List ℕ → List Bool
taken_at map taken [] = taken
taken_at map taken (address ∷ addresses) = taken_at map (slice_set taken (slot_of map address) true) addresses

-- The memory that a thread works on.
pub record Workspace : Type 0 where
  pub map : List Mapped
  pub view : Memory
  pub memory : Memory
  pub stored : Masks
  pub taken : List Bool

-- A workspace at the start of a thunk: nothing stored and nothing taken.
abbrev pub fresh : List Mapped → Memory → Workspace
fresh map view =
    record { map = map; view = view; memory = view; stored = on_each no_marks map; taken = on_each false map }

-- A workspace after bytes at these addresses were taken.
abbrev pub after_taking : Workspace → List ℕ → Workspace
after_taking w addresses = record w { taken = taken_at w.map w.taken addresses }

-- A workspace after stores.
abbrev pub after_storing : Workspace → List StoredByte → Workspace
after_storing w stores = record w { memory = with_stores w.map w.memory stores; stored = marked w.map w.stored stores }

-- Nothing changed, except that a byte of the page of this address may have been taken.
abbrev pub TookAtMost : ℕ → Workspace → Workspace → Type 0
TookAtMost address before after = (after ≡ before) ⊎ (after ≡ after_taking before (address ∷ []))

-- How a fetch or a load at an address ends, where `found` is what it finds: its value, and a byte of its page is taken;
-- or no access, if nothing is found, and nothing changed; or the host's memory ran out, and nothing changed.
abbrev pub Takes : Workspace → ℕ → Option ℕ → Result ℕ MemoryError → Workspace → Type 0
Takes before address found (Ok value) after = (found ≡ Some value) × (after ≡ after_taking before (address ∷ []))
Takes before address found (Err Access) after = (found ≡ None) × (after ≡ before)
Takes before address found (Err NoMemory) after = after ≡ before

-- How a store ends: its bytes are stored; or no access, if the page doesn't permit it, and nothing changed; or the
-- host's memory ran out, and nothing changed.
abbrev pub Stores : Workspace → ℕ → Size → ℕ → Result Unit MemoryError → Workspace → Type 0
Stores before address size value (Ok done) after =
    (may_store before.map address ≡ true) × (after ≡ after_storing before (bytes_stored address size value))
Stores before address size value (Err Access) after = (may_store before.map address ≡ false) × (after ≡ before)
Stores before address size value (Err NoMemory) after = after ≡ before
