-- What a fetch, a load and a store at an aligned address find and write: little-endian, inside one page.
use Rattle.std.specs.Prelude.{ℕ, ◌+◌, ◌*◌, ◌/◌, ◌%◌, ◌^◌, Bool, if◌then◌else◌, List, [], ◌∷◌, Option, Some, None, slice_index_or}
use Rattle.memory_spec.specs.declared.Size.{Size}
use Rattle.memory_spec.specs.declared.Size.TheVariants.{One, Two, Four}
use Rattle.memory_spec.specs.Pages.{Mapped, Memory, allows, execute_right, write_right, read_right, slot_of, permission_at, page_of}
use Rattle.memory_spec.specs.Stores.{StoredByte}

-- How many bytes an access moves. (RISC-V unprivileged ISA 20191213, 2.6)
abbrev pub byte_count : Size → ℕ
byte_count One = 1
byte_count Two = 2
byte_count Four = 4

-- The number in a page from an offset on, least byte first. (RISC-V unprivileged ISA 20191213, 2.6)
unfoldable pub number_in : List ℕ → ℕ → Size → ℕ
number_in page offset One = slice_index_or page offset 0
number_in page offset Two = slice_index_or page offset 0 + slice_index_or page (offset + 1) 0 * 2 ^ 8
number_in page offset Four =
    slice_index_or page offset 0 + slice_index_or page (offset + 1) 0 * 2 ^ 8
    + slice_index_or page (offset + 2) 0 * 2 ^ 16 + slice_index_or page (offset + 3) 0 * 2 ^ 24

-- One stored byte of a value: byte number k, counted from the least. (RISC-V unprivileged ISA 20191213, 2.6)
abbrev pub byte_stored : ℕ → ℕ → ℕ → StoredByte
byte_stored address value k = record { address = address + k; byte = value / 2 ^ (8 * k) % 256 }

-- The bytes that a store of a value writes, least byte first. (RISC-V unprivileged ISA 20191213, 2.6)
unfoldable pub bytes_stored : ℕ → Size → ℕ → List StoredByte
bytes_stored address One value = byte_stored address value 0 ∷ []
bytes_stored address Two value = byte_stored address value 0 ∷ byte_stored address value 1 ∷ []
bytes_stored address Four value =
    byte_stored address value 0 ∷ byte_stored address value 1 ∷ byte_stored address value 2
    ∷ byte_stored address value 3 ∷ []

-- The number at an address. (RISC-V unprivileged ISA 20191213, 2.6)
unfoldable pub number_at : List Mapped → Memory → ℕ → Size → ℕ
number_at map memory address size = number_in (page_of memory (slot_of map address)) (address % 4096) size

-- The number that a load finds, or none if its page doesn't permit it. (RISC-V unprivileged ISA 20191213, 2.6)
unfoldable pub loaded : List Mapped → Memory → ℕ → Size → Option ℕ
loaded map memory address size =
    if allows read_right (permission_at map address) then Some (number_at map memory address size) else None

-- The word that a fetch finds, or none if its page doesn't permit it. (RISC-V unprivileged ISA 20191213, 1.5)
unfoldable pub fetched : List Mapped → Memory → ℕ → Option ℕ
fetched map memory address =
    if allows execute_right (permission_at map address) then Some (number_at map memory address Four) else None

-- Whether the page of an address permits a store. (RISC-V unprivileged ISA 20191213, 2.6)
unfoldable pub may_store : List Mapped → ℕ → Bool
may_store map address = allows write_right (permission_at map address)
