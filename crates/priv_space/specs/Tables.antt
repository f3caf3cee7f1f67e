-- The slots that a table of touched ones represents.
use Rattle.std.specs.Prelude.{List}
use Rattle.priv_space.specs.declared.slot.Slot.{Slot}
use Rattle.priv_space.specs.declared.slots.Slots.TheInside.{Inside}
use Rattle.priv_space.specs.Held.{all_held, IsHeld}

-- All slots of a table.
abbrev pub slots_of : Inside → List Slot
slots_of table = all_held table.places.items table.held.items

-- A table of slots.
abbrev pub IsTable : Inside → Type 0
IsTable table = IsHeld table.listed table.places.items table.held.items
