-- What a thread's memory means: its map, the view, the view with its own stores, where it stored, and which pages it
-- took bytes from.
use Rattle.std.specs.Prelude.{List, map}
use Rattle.std.specs.Arc.{arc_value}
use Rattle.memory_spec.specs.Pages.{Mapped, Memory}
use Rattle.memory_spec.specs.Workspace.{Workspace}
use Rattle.priv_space.specs.declared.slot.Slot.{Slot}
use Rattle.priv_space.specs.declared.space.Space.TheInside.{Inside}
use Rattle.priv_space.specs.Slots.{on_view, slot_bytes, slot_marks, slot_taken}

-- The workspace of slots over a view of a map.
abbrev pub workspace : List Mapped → Memory → List Slot → Workspace
workspace pages view slots = record {
  map = pages;
  view = view;
  memory = on_view slot_bytes view slots;
  stored = map slot_marks slots;
  taken = map slot_taken slots;
}

-- The workspace of a space.
abbrev pub workspace_of : Inside → Workspace
workspace_of space = workspace (arc_value space.pages) (arc_value space.view) space.slots
