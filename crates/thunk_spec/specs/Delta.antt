-- What a thunk stored, apart from any view: for each page with a store, at which places, and the last byte at each.
use Rattle.std.specs.Prelude.{ℕ, suc, Bool, true, false, if◌then◌else◌, List, [], ◌∷◌, slice_set}
use Rattle.std.specs.List.{list_any}
use Rattle.memory_spec.specs.Pages.{Mapped, Memory, on_each, zero_page, page_of}
use Rattle.memory_spec.specs.Stores.{StoredByte, with_stores}
use Rattle.memory_spec.specs.Workspace.{Masks, no_marks, marked}

-- A page's slot, the mask of the places that were stored to, and the bytes at these places in ascending order.
pub record PageDelta : Type 0 where
  pub slot : ℕ
  pub mask : List Bool
  pub bytes : List ℕ

-- The bytes of a page at the places of a mask.
abbrev pub chosen : List Bool → List ℕ → List ℕ
chosen [] page = []
chosen (mark ∷ mask) [] = []
chosen (mark ∷ mask) (byte ∷ page) = if mark then byte ∷ chosen mask page else chosen mask page

-- A page after bytes were written at the places of a mask.
abbrev pub spread : List Bool → List ℕ → List ℕ → List ℕ
spread [] bytes page = page
spread (mark ∷ mask) bytes [] = []
spread (false ∷ mask) bytes (byte ∷ page) = byte ∷ spread mask bytes page
spread (true ∷ mask) [] (byte ∷ page) = byte ∷ page
spread (true ∷ mask) (written ∷ bytes) (byte ∷ page) = written ∷ spread mask bytes page

-- Whether a mask has any place.
abbrev pub is_stored : List Bool → Bool
is_stored mask = list_any (λ mark. mark) mask

-- The deltas of pages from slot k on: one for each page with a store.
abbrev pub delta_from : ℕ → Masks → Memory → List PageDelta
delta_from k [] pages = []
delta_from k (mask ∷ masks) [] = []
delta_from k (mask ∷ masks) (page ∷ pages) =
    if is_stored mask then (record { slot = k; mask = mask; bytes = chosen mask page }) ∷ delta_from (suc k) masks pages
    else delta_from (suc k) masks pages

-- The delta of stores, apart from any view: the places that they wrote, and the bytes there after them in a memory of
-- zeros.
unfoldable pub delta_of : List Mapped → List StoredByte → List PageDelta
delta_of map stores = delta_from 0 (marked map (on_each no_marks map) stores) (with_stores map (on_each zero_page map) stores)

-- A memory after the masked bytes of a delta were written.
abbrev pub masked : Memory → List PageDelta → Memory
masked memory [] = memory
masked memory (d ∷ delta) = masked (slice_set memory d.slot (spread d.mask d.bytes (page_of memory d.slot))) delta
