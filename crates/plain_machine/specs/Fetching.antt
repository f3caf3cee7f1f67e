-- The page that an instruction was fetched from last.
use Rattle.std.specs.Prelude.{◌≡◌, ◌<◌, ◌/◌, ◌^◌, ℕ, true, List, length}
use Rattle.memory_spec.specs.Pages.{Mapped, allows, execute_right, slot_of, permission_at}
use Rattle.plain_machine.specs.declared.pages.LastPage.{LastPage}

-- Each address that has the page's number is in its slot, and may be fetched from.
abbrev pub IsLast : List Mapped → LastPage → Type 0
IsLast map last =
    (address : ℕ) → address < 2 ^ 32 → address / 4096 ≡ last.number
    → (slot_of map address ≡ last.slot) × (last.slot < length map)
    × (allows execute_right (permission_at map address) ≡ true)
