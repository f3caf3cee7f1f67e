-- What a shelf of groups of pages means, and what is true of it.
use Rattle.std.specs.Prelude.{List, length, map}
use Rattle.std.specs.Arc.{arc_value}
use Rattle.memory_spec.specs.Pages.{Memory}
use Rattle.page_store.specs.declared.group.TheConstants.{GROUP_SIZE}
use Rattle.page_store.specs.declared.shelf.Shelf.TheInside.{Inside}
use Rattle.page_store.specs.Groups.{joined, AreGroupsOf}

-- The groups that a shelf shares.
abbrev pub groups_on : Inside → List Memory
groups_on shelf = map arc_value shelf.groups.items

-- The pages of a shelf, in order.
abbrev pub pages_on : Inside → Memory
pages_on shelf = joined (groups_on shelf)

-- A shelf's pages are in groups that are all full except the last.
abbrev pub IsShelf : Inside → Type 0
IsShelf shelf = AreGroupsOf GROUP_SIZE (length (pages_on shelf)) (groups_on shelf)
