-- The pages that a thunk took bytes from, with their bytes in the view.
use Rattle.std.specs.Prelude.{ℕ, suc, Bool, true, false, ◌&&◌, List, [], ◌∷◌}
use Rattle.std.specs.Str.{bytes_eq}
use Rattle.memory_spec.specs.Pages.{Mapped, Memory, on_each, page_of}
use Rattle.memory_spec.specs.Workspace.{taken_at}

-- A read page: its slot, and the bytes that it had in the view.
pub record ReadPage : Type 0 where
  pub slot : ℕ
  pub bytes : List ℕ

-- The read pages from slot k on, in ascending order.
abbrev pub reads_from : ℕ → List Bool → Memory → List ReadPage
reads_from k [] view = []
reads_from k (true ∷ taken) view = (record { slot = k; bytes = page_of view k }) ∷ reads_from (suc k) taken view
reads_from k (false ∷ taken) view = reads_from (suc k) taken view

-- The read pages of a thunk that took bytes at these addresses.
unfoldable pub reads_of : List Mapped → Memory → List ℕ → List ReadPage
reads_of map view addresses = reads_from 0 (taken_at map (on_each false map) addresses) view

-- Whether a view has the bytes of each read page.
abbrev pub has : Memory → List ReadPage → Bool
has view [] = true
has view (r ∷ reads) = bytes_eq (page_of view r.slot) r.bytes && has view reads
