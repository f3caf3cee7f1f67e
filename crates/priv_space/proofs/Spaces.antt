-- What a space means after each of its operations.
use Rattle.std.proofs.Common.{◌≡◌, ℕ, ◌%◌, ◌<◌, Bool, true, false, IsTrue, IsFalse, cond, List, [], ◌∷◌, length, map, get_or, set, replicate, refl, ap, sym, ◌∙◌, arith, Result, Ok, Err, MatchResult, Some, None}
use Rattle.std.proofs.lemmas.List.{map-set, get_or-map, length-map, length-set, length-replicate, set-get_or}
use Rattle.std.proofs.Math.Seq.{map-set_same}
use Rattle.memory_spec.specs.declared.Size.{Size}
use Rattle.memory_spec.specs.Pages.{Mapped, Memory, allows, execute_right, read_right, write_right, slot_of, permission_at, page_of, unmapped, on_each}
use Rattle.memory_spec.specs.Access.{byte_count, bytes_stored, number_in, number_at, loaded, may_store}
use Rattle.memory_spec.specs.Stores.{with_stores}
use Rattle.memory_spec.specs.Workspace.{mask_of, marked, fresh, after_taking, after_storing}
use Rattle.priv_space.specs.Written.{with_number, with_marks}
use Rattle.page_store.specs.Entering.{Enters}
use Rattle.priv_space.specs.declared.slot.Slot.{Slot}
use Rattle.priv_space.specs.Slots.{on_view, untouched, slot_shared, slot_bytes, slot_marks, slot_taken, SharesPage, IsPermitted, Fits}
use Rattle.priv_space.specs.Changes.{Keeps, HasNumber, TakesByte, EntersPage, StoresNumber, StoresAgain, OnSlot}
use Rattle.priv_space.specs.Spaces.{workspace}
use Rattle.priv_space.proofs.Views.{bytes-untouched, on_view-set, on_view-set_same, get_or-on_view, length-on_view, each-set, each-untouched}
use Rattle.priv_space.proofs.Access.{with_stores-access, marked-access}

-- slots that weren't touched are a fresh workspace
each-fresh :
    {A : Type 0} (f : Slot → A) (view : Memory) (pages : List Mapped) → length view ≡ length pages
    → map f (replicate (length view) untouched) ≡ on_each (f untouched) pages
each-fresh f [] [] same = refl
each-fresh f [] (p ∷ pages) same = absurd (omega arith)
each-fresh f (page ∷ view) [] same = absurd (omega arith)
each-fresh f (page ∷ view) (p ∷ pages) same = ap (λ rest. f untouched ∷ rest) (each-fresh f view pages (omega arith))

pub fresh_space :
    (pages : List Mapped) (view : Memory) {slots : List Slot} {n : ℕ} → slots ≡ replicate n untouched → n ≡ length view
    → length view ≡ length pages → workspace pages view slots ≡ fresh pages view
unfolding slot_marks slot_taken untouched
fresh_space pages view are count same =
    let memory = bytes-untouched view in
    let marks = each-fresh slot_marks view pages same in
    let flags = each-fresh slot_taken view pages same in
    rw (are, count) (cc)

pub fresh_fits :
    (pages : List Mapped) (view : Memory) {slots : List Slot} {n : ℕ} → slots ≡ replicate n untouched → n ≡ length view
    → length view ≡ length pages → Fits pages view slots
unfolding slot_shared untouched
fresh_fits pages view are count same = rw (are, count) record {
  pages = same;
  over = record {
    count = length-replicate (length view) untouched;
    shared = each-untouched (λ k. SharesPage (page_of view k)) (length view) (λ k. refl);
  };
  permitted = each-untouched (λ k. IsPermitted (get_or pages k unmapped).permission) (length view) (λ k. tt);
}

-- The slot of an address, whose page the map has.
abbrev pub IsAt : List Mapped → ℕ → ℕ → Type 0
IsAt pages address i = (i ≡ slot_of pages address) × (i < length pages)

-- a slot of the map is one of the slots and of the view
inside_slots :
    {pages : List Mapped} {view : Memory} {slots : List Slot} {i : ℕ} → Fits pages view slots → i < length pages
    → (i < length slots) × (i < length view)
inside_slots fits lt = (omega (arith, fits.over.count, fits.pages), omega (arith, fits.pages))

-- the slots fit as before after one changed in a way that its page permits
pub fits-after :
    (may : ℕ → Bool) {pages : List Mapped} {view : Memory} {slots after : List Slot} {i : ℕ} {s : Slot}
    → Fits pages view slots → i < length pages → after ≡ set slots i s
    → Keeps may (page_of view i) (get_or slots i untouched) s → may (get_or pages i unmapped).permission ≡ true
    → Fits pages view after
fits-after may {pages} {view} {slots} {after} {i} {s} fits lt is keeps has =
    let under = inside_slots fits lt in
    rw is record {
      pages = fits.pages;
      over = record {
        count = length-set slots i s ∙ fits.over.count;
        shared =
            each-set (λ k. SharesPage (page_of view k)) slots i s under.0 fits.over.shared
            (keeps.shared ∙ fits.over.shared i);
      };
      permitted =
          each-set (λ k. IsPermitted (get_or pages k unmapped).permission) slots i s under.0 fits.permitted
          (keeps.permitted (get_or pages i unmapped).permission has (fits.permitted i));
    }

-- so they do after a call that may fail
pub fits-outcome :
    {T E : Type 0} (may : ℕ → Bool) (Change : T → Slot → Slot → Type 0)
    {pages : List Mapped} {view : Memory} {slots after : List Slot} {i : ℕ} (address : ℕ) (r : Result T E)
    → Fits pages view slots → IsAt pages address i → may (permission_at pages address) ≡ true
    → ((value : T) (old new : Slot) → Change value old new → Keeps may (page_of view i) old new)
    → MatchResult r (λ value. OnSlot i (Change value) slots after) (λ error. after ≡ slots)
    → Fits pages view after
unfolding permission_at
fits-outcome may Change {pages} address (Ok value) fits at has keeps done =
    fits-after may fits at.1 done.others (keeps value _ _ done.change)
    (ap (λ k. may (get_or pages k unmapped).permission) at.0 ∙ has)
fits-outcome may Change address (Err error) fits at has keeps done = rw done fits

-- taking a byte of a slot's page is taking one at an address in it
pub taken_space :
    {may : ℕ → Bool} (pages : List Mapped) {view : Memory} {slots after : List Slot} (address : ℕ) {i : ℕ} {s : Slot}
    → Fits pages view slots → IsAt pages address i → after ≡ set slots i s
    → TakesByte may (page_of view i) (get_or slots i untouched) s
    → workspace pages view after ≡ after_taking (workspace pages view slots) (address ∷ [])
taken_space pages {view} {slots} {after} address {i} {s} fits at is takes =
    let under = inside_slots fits at.1 in
    let bytes = on_view-set_same slot_bytes view slots i s untouched under.1 under.0 takes.bytes in
    let marks = map-set_same slot_marks slots i s untouched takes.marks in
    let flags : map slot_taken (set slots i s) ≡ set (map slot_taken slots) (slot_of pages address) true =
    map-set slot_taken slots i s
    ∙ ap (set (map slot_taken slots) i) takes.taken
    ∙ ap (λ k. set (map slot_taken slots) k true) at.0 in
    rw is (cc)

-- a store into a slot's page is the store of its bytes
pub stored_space :
    (pages : List Mapped) {view : Memory} {slots after : List Slot} (address : ℕ) (size : Size) (value : ℕ)
    {i : ℕ} {s : Slot}
    → Fits pages view slots → IsAt pages address i → address % byte_count size ≡ 0
    → after ≡ set slots i s
    → StoresNumber (page_of view i) (record { slot = i; offset = address % 4096; size = size }) value
    (get_or slots i untouched) s
    → workspace pages view after ≡ after_storing (workspace pages view slots) (bytes_stored address size value)
stored_space pages {view} {slots} {after} address size value {i} {s} fits at aligned is stores =
    let memory = on_view slot_bytes view slots in
    let stored = map slot_marks slots in
    let offset = address % 4096 in
    let under = inside_slots fits at.1 in
    let bytes : on_view slot_bytes view (set slots i s) ≡ with_stores pages memory (bytes_stored address size value) =
    on_view-set slot_bytes view slots i s
    ∙ ap (set memory i) (stores.bytes
    ∙ ap (λ p. with_number p offset size value) (sym (get_or-on_view slot_bytes view slots i untouched under.1 under.0)))
    ∙ ap (λ k. set memory k (with_number (page_of memory k) offset size value)) at.0
    ∙ sym (with_stores-access pages memory address size value aligned
    (omega (arith, under.1, length-on_view slot_bytes view slots fits.over.count))) in
    let marks : map slot_marks (set slots i s) ≡ marked pages stored (bytes_stored address size value) =
    map-set slot_marks slots i s
    ∙ ap (set stored i) (stores.marks
    ∙ ap (λ m. with_marks m offset size) (sym (get_or-map slot_marks slots i untouched [] under.0)))
    ∙ ap (λ k. set stored k (with_marks (mask_of stored k) offset size)) at.0
    ∙ sym (marked-access pages stored address size value aligned
    (omega (arith, under.0, length-map slots slot_marks))) in
    let flags = map-set_same slot_taken slots i s untouched stores.taken in
    rw is (cc)

-- the number at an address is the one in its slot's page, if the page has the right
pub found_space :
    (right : ℕ) (pages : List Mapped) {view : Memory} {slots : List Slot} (address : ℕ) (size : Size) {number i : ℕ}
    → Fits pages view slots → IsAt pages address i → allows right (permission_at pages address) ≡ true
    → number ≡ number_in (slot_bytes (page_of view i) (get_or slots i untouched)) (address % 4096) size
    → cond (allows right (permission_at pages address))
    (Some (number_at pages (on_view slot_bytes view slots) address size)) None ≡ Some number
unfolding number_at
found_space right pages {view} {slots} address size {number} {i} fits at has number_is =
    let under = inside_slots fits at.1 in
    let memory = on_view slot_bytes view slots in
    ap (λ b. cond b (Some (number_in (page_of memory (slot_of pages address)) (address % 4096) size)) None) has
    ∙ ap (λ k. Some (number_in (page_of memory k) (address % 4096) size)) (sym at.0)
    ∙ ap (λ page. Some (number_in page (address % 4096) size))
    (get_or-on_view slot_bytes view slots i untouched under.1 under.0)
    ∙ ap Some (sym number_is)

-- a load of a number that a slot has finds it, and changes nothing
pub held_space :
    (pages : List Mapped) {view : Memory} {slots : List Slot} (address : ℕ) (size : Size) {number i : ℕ}
    → Fits pages view slots → IsAt pages address i
    → HasNumber (record { slot = i; offset = address % 4096; size = size }) number (get_or slots i untouched)
    → (loaded pages (on_view slot_bytes view slots) address size ≡ Some number)
    × (workspace pages view slots ≡ after_taking (workspace pages view slots) (address ∷ []))
unfolding loaded permission_at
held_space pages {view} {slots} address size {number} {i} fits at held =
    let under = inside_slots fits at.1 in
    let flags = map slot_taken slots in
    let same : flags ≡ set flags (slot_of pages address) true =
    sym (set-get_or flags i false)
    ∙ ap (set flags i) (get_or-map slot_taken slots i untouched false under.0 ∙ held.taken)
    ∙ ap (λ k. set flags k true) at.0 in (
      found_space read_right pages address size fits at
          (ap (λ k. allows read_right (get_or pages k unmapped).permission) (sym at.0)
          ∙ held.reads _ (fits.permitted i))
          (held.value (page_of view i) (fits.over.shared i)),
      cc,
    )

-- a store to an own copy may be made, and is the store of its bytes
pub stored_again :
    (pages : List Mapped) {view : Memory} {slots after : List Slot} (address : ℕ) (size : Size) (value : ℕ) {i : ℕ}
    → Fits pages view slots → IsAt pages address i → address % byte_count size ≡ 0
    → OnSlot i (StoresAgain (record { slot = i; offset = address % 4096; size = size }) value) slots after
    → (may_store pages address ≡ true)
    × (workspace pages view after ≡ after_storing (workspace pages view slots) (bytes_stored address size value))
unfolding may_store permission_at
stored_again pages {view} {slots} address size value {i} fits at aligned done = (
  ap (λ k. allows write_right (get_or pages k unmapped).permission) (sym at.0)
      ∙ done.change.writes _ (fits.permitted i),
  stored_space pages address size value fits at aligned done.others (done.change.stores (page_of view i)),
)

-- so the slots fit after a call that reports whether it changed one
pub fits-if :
    (may : ℕ → Bool) {Change : Slot → Slot → Type 0} {pages : List Mapped} {view : Memory} {slots after : List Slot}
    {i : ℕ} (done : Bool) → Fits pages view slots → i < length pages
    → (IsTrue done → OnSlot i Change slots after) → (IsFalse done → after ≡ slots)
    → ((page : List ℕ) (old new : Slot) → IsPermitted (get_or pages i unmapped).permission old → Change old new
    → Keeps may page old new × (may (get_or pages i unmapped).permission ≡ true))
    → Fits pages view after
fits-if may {view = view} {i = i} true fits lt changes stays keeps =
    let done = changes refl in
    let kept = keeps (page_of view i) _ _ (fits.permitted i) done.change in
    fits-after may fits lt done.others kept.0 kept.1
fits-if may false fits lt changes stays keeps = rw (stays refl) fits

-- entering a slot's page is entering the page of an address in it, which has the view's bytes
pub entered_space :
    (pages : List Mapped) {view : Memory} {slots after : List Slot} (address : ℕ) {i : ℕ}
    → Fits pages view slots → IsAt pages address i
    → allows execute_right (permission_at pages address) ≡ true → OnSlot i EntersPage slots after
    → Enters (workspace pages view slots) address i (workspace pages view after)
entered_space pages {view} {slots} address {i} fits at has done =
    let under = inside_slots fits at.1 in
    record {
      slot_is = at.0;
      mapped = under.1;
      permitted = has;
      unchanged =
          get_or-on_view slot_bytes view slots i untouched under.1 under.0 ∙ done.change.viewed (page_of view i);
      taken = taken_space pages address fits at done.others (done.change.takes (page_of view i));
    }
