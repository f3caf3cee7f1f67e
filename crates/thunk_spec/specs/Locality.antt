-- Views that agree on the pages from which bytes were taken.
use Rattle.std.specs.Prelude.{◌≡◌, ℕ, List}
use Rattle.std.specs.List.{AllByRecursion}
use Rattle.memory_spec.specs.Pages.{Mapped, Memory, slot_of, page_of}

-- Two views have the same bytes in the page of each of these addresses.
abbrev pub Agree : List Mapped → Memory → Memory → List ℕ → Type 0
Agree map view other addresses =
    AllByRecursion (λ address. page_of other (slot_of map address) ≡ page_of view (slot_of map address)) addresses
