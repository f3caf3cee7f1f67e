-- What the memory that a thunk works on means.
use Rattle.std.specs.Prelude.{◌≡◌, [], length}
use Rattle.std.specs.Arc.{arc_value}
use Rattle.memory_spec.specs.Pages.{Memory, IsMemory, on_each}
use Rattle.memory_spec.specs.Stores.{with_stores}
use Rattle.memory_spec.specs.Workspace.{Workspace, Masks, no_marks, marked}
use Rattle.plain_machine.specs.declared.work.Work.TheInside.{Inside}
use Rattle.plain_machine.specs.Stored.{bytes_of}
use Rattle.plain_machine.specs.Merging.{merged}
use Rattle.plain_machine.specs.Fetching.{IsLast}

-- The places that were stored to, which follow from the list of stores.
abbrev pub stored_of : Inside → Masks
stored_of w = marked (arc_value w.map) (on_each no_marks (arc_value w.map)) (bytes_of w.stores.items)

-- The workspace. It has no view and no read pages, since nothing needs them.
abbrev pub workspace_of : Inside → Workspace
workspace_of w =
    record { map = arc_value w.map; view = []; memory = w.memory; stored = stored_of w; taken = [] }

-- There is a page for each page of the map. The stores, applied to any memory, give it this memory's bytes at the
-- places that they stored to, and change no others. The page that was fetched from last is in its slot.
pub record Keeps (w : Inside) : Type 0 where
  pub count : length w.memory ≡ length (arc_value w.map)
  pub applies : (shared : Memory) → IsMemory (arc_value w.map) shared
      → with_stores (arc_value w.map) shared (bytes_of w.stores.items) ≡ merged (stored_of w) w.memory shared
  pub last : IsLast (arc_value w.map) w.last
