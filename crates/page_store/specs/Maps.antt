-- What a page map means.
use Rattle.std.specs.Prelude.{◌≡◌, List, true}
use Rattle.memory_spec.specs.Pages.{Mapped, ascends_above}
use Rattle.page_store.specs.declared.pages.PageMap.TheInside.{Inside}
use Rattle.page_store.specs.MapTables.{IsTable}

-- The mapped pages, by slot.
abbrev pub pages_of : Inside → List Mapped
pages_of map = map.pages.items

-- The pages of a map ascend, and its table is a table of these pages.
pub record IsMap (map : Inside) : Type 0 where
  pub ascends : ascends_above 0 (pages_of map) ≡ true
  pub table : IsTable (pages_of map) map.table.starts map.table.places.items map.table.used
