-- Stores of numbers, in order, and the bytes that they store.
use Rattle.std.specs.Prelude.{ℕ, ◌+◌, ◌*◌, ◌/◌, ◌%◌, ◌^◌, List, [], ◌∷◌, ◌++◌, slice_set}
use Rattle.memory_spec.specs.declared.Size.{Size}
use Rattle.memory_spec.specs.declared.Size.TheVariants.{One, Two, Four}
use Rattle.memory_spec.specs.Access.{bytes_stored}
use Rattle.memory_spec.specs.Stores.{StoredByte}

-- One store: the lowest bytes of a value, so many, at an address.
pub record StoredNumber : Type 0 where
  pub address : ℕ
  pub size : Size
  pub value : ℕ

-- The bytes that stores store, in order.
abbrev pub bytes_of : List StoredNumber → List StoredByte
bytes_of [] = []
bytes_of (s ∷ stores) = bytes_stored s.address s.size s.value ++ bytes_of stores

-- Byte number k of a value, counted from the least. (RISC-V unprivileged ISA 20191213, 2.6)
abbrev pub byte_of : ℕ → ℕ → ℕ
byte_of value k = value / 2 ^ (8 * k) % 256

-- A page after a value was stored at an offset, least byte first. (RISC-V unprivileged ISA 20191213, 2.6)
unfoldable pub with_number : List ℕ → ℕ → Size → ℕ → List ℕ
with_number page offset One value = slice_set page offset (byte_of value 0)
with_number page offset Two value = slice_set (slice_set page offset (byte_of value 0)) (offset + 1) (byte_of value 1)
with_number page offset Four value =
    slice_set
    (slice_set (slice_set (slice_set page offset (byte_of value 0)) (offset + 1) (byte_of value 1)) (offset + 2)
    (byte_of value 2))
    (offset + 3) (byte_of value 3)
