-- What a table of pages means, and what is true of it.
use Rattle.std.specs.Prelude.{◌≡◌, List, All, length, map}
use Rattle.std.specs.Arc.{arc_value}
use Rattle.memory_spec.specs.Pages.{Memory}
use Rattle.memory_spec.specs.declared.TheConstants.{PAGE_SIZE}
use Rattle.page_store.specs.declared.shelf.TheConstants.{SHELF_SIZE}
use Rattle.page_store.specs.declared.table.PageTable.TheInside.{Inside}
use Rattle.page_store.specs.Groups.{joined, AreGroupsOf}

-- The shelves that a table shares.
abbrev pub shelves_of : Inside → List Memory
shelves_of table = map arc_value table.shelves.items

-- The pages of a table, by slot.
abbrev pub pages_of : Inside → Memory
pages_of table = joined (shelves_of table)

-- A table counts the pages on its shelves, and each page has 4,096 bytes.
pub record IsTable (table : Inside) : Type 0 where
  pub shelved : AreGroupsOf SHELF_SIZE table.count (shelves_of table)
  pub pages : All (λ page. length page ≡ PAGE_SIZE) (pages_of table)
