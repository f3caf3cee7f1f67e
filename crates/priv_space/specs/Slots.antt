-- What a slot of a thread's memory means, over the view's page in it.
use Rattle.std.specs.Prelude.{◌≡◌, ℕ, Bool, true, false, List, [], ◌∷◌, length, slice_index_or}
use Rattle.std.specs.Arc.{arc_value}
use Rattle.memory_spec.specs.Pages.{Mapped, Memory, page_of, unmapped, allows, read_right, write_right}
use Rattle.memory_spec.specs.Workspace.{no_marks}
use Rattle.priv_space.specs.declared.slot.Slot.{Slot}
use Rattle.priv_space.specs.declared.slot.Slot.TheVariants.{View, Shared, Own, Hidden}

-- A slot that wasn't touched.
unfoldable pub untouched : Slot
untouched = View false

-- The bytes that the slot shares with the view; the view's if it shares none.
unfoldable pub slot_shared : List ℕ → Slot → List ℕ
slot_shared page (View taken) = page
slot_shared page (Shared shared) = arc_value shared
slot_shared page (Own own) = page
slot_shared page (Hidden taken own) = page

-- What the slot shares with the view is its page.
abbrev pub SharesPage : List ℕ → Slot → Type 0
SharesPage page slot = slot_shared page slot ≡ page

-- The bytes with the thread's stores.
unfoldable pub slot_bytes : List ℕ → Slot → List ℕ
slot_bytes page (View taken) = page
slot_bytes page (Shared shared) = page
slot_bytes page (Own own) = own.value.page
slot_bytes page (Hidden taken own) = own.value.page

-- Which places were stored to.
unfoldable pub slot_marks : Slot → List Bool
slot_marks (View taken) = no_marks
slot_marks (Shared shared) = no_marks
slot_marks (Own own) = own.value.mask
slot_marks (Hidden taken own) = own.value.mask

-- Whether a byte was taken.
unfoldable pub slot_taken : Slot → Bool
slot_taken (View taken) = taken
slot_taken (Shared shared) = true
slot_taken (Own own) = true
slot_taken (Hidden taken own) = taken

-- A page of this permission may be held in this way: it may be read if loads find it without a check, and stored to if
-- it has an own copy.
abbrev pub IsPermitted : ℕ → Slot → Type 0
IsPermitted permission (View taken) = Unit {0}
IsPermitted permission (Shared shared) = allows read_right permission ≡ true
IsPermitted permission (Own own) = (allows read_right permission ≡ true) × (allows write_right permission ≡ true)
IsPermitted permission (Hidden taken own) = allows write_right permission ≡ true

-- Each page may be held as its slot holds it.
abbrev pub ArePermitted : List Mapped → List Slot → Type 0
ArePermitted map slots =
    (i : ℕ) → IsPermitted (slice_index_or map i unmapped).permission (slice_index_or slots i untouched)

-- The result of a function of each slot and the view's page in it.
abbrev pub on_view : (List ℕ → Slot → List ℕ) → Memory → List Slot → Memory
on_view f [] slots = []
on_view f (page ∷ view) [] = []
on_view f (page ∷ view) (s ∷ slots) = f page s ∷ on_view f view slots

-- There is a slot for each page of the view, and what each shares is the page in its place.
pub record IsOver (view : Memory) (slots : List Slot) : Type 0 where
  pub count : length slots ≡ length view
  pub shared : (i : ℕ) → SharesPage (page_of view i) (slice_index_or slots i untouched)

-- The slots are over a view of this map, and each holds its page as it may be held.
pub record Fits (map : List Mapped) (view : Memory) (slots : List Slot) : Type 0 where
  pub pages : length view ≡ length map
  pub over : IsOver view slots
  pub permitted : ArePermitted map slots
