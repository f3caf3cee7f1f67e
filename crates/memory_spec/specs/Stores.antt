-- Stores: bytes written in order.
use Rattle.std.specs.Prelude.{ℕ, ◌%◌, List, [], ◌∷◌, slice_set}
use Rattle.memory_spec.specs.Pages.{Mapped, Memory, slot_of, page_of}

-- One stored byte. (RISC-V unprivileged ISA 20191213, 2.6)
pub record StoredByte : Type 0 where
  pub address : ℕ
  pub byte : ℕ

-- A memory after one stored byte; one at an address that isn't mapped changes nothing.
unfoldable pub with_byte : List Mapped → Memory → StoredByte → Memory
with_byte map memory s =
    slice_set memory (slot_of map s.address)
    (slice_set (page_of memory (slot_of map s.address)) (s.address % 4096) s.byte)

-- A memory after stores, made in their order.
abbrev pub with_stores : List Mapped → Memory → List StoredByte → Memory
with_stores map memory [] = memory
with_stores map memory (s ∷ stores) = with_stores map (with_byte map memory s) stores
