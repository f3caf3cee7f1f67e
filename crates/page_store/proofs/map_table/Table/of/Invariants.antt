-- A table of these pages.
use Rattle.page_store.specs.MapTables.{IsTable}
use Rattle.page_store.proofs.map_table.Table.of.Given as goal

abbrev pub invariant-loop-slot : goal.invariant-loop-slot
invariant-loop-slot l = IsTable l.pages l.table.starts l.table.places.items l.table.used
