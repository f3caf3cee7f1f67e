-- A page and its mask after a number was stored, least byte first.
use Rattle.std.specs.Prelude.{ℕ, ◌+◌, ◌*◌, ◌/◌, ◌%◌, ◌^◌, Bool, true, List, slice_set}
use Rattle.memory_spec.specs.declared.Size.{Size}
use Rattle.memory_spec.specs.declared.Size.TheVariants.{One, Two, Four}

-- Byte number k of a value, counted from the least. (RISC-V unprivileged ISA 20191213, 2.6)
abbrev pub byte_of : ℕ → ℕ → ℕ
byte_of value k = value / 2 ^ (8 * k) % 256

-- A page after a value was stored at an offset. (RISC-V unprivileged ISA 20191213, 2.6)
unfoldable pub with_number : List ℕ → ℕ → Size → ℕ → List ℕ
with_number page offset One value = slice_set page offset (byte_of value 0)
with_number page offset Two value = slice_set (slice_set page offset (byte_of value 0)) (offset + 1) (byte_of value 1)
with_number page offset Four value =
    slice_set
    (slice_set (slice_set (slice_set page offset (byte_of value 0)) (offset + 1) (byte_of value 1)) (offset + 2)
    (byte_of value 2))
    (offset + 3) (byte_of value 3)

-- A mask after that.
unfoldable pub with_marks : List Bool → ℕ → Size → List Bool
with_marks mask offset One = slice_set mask offset true
with_marks mask offset Two = slice_set (slice_set mask offset true) (offset + 1) true
with_marks mask offset Four =
    slice_set (slice_set (slice_set (slice_set mask offset true) (offset + 1) true) (offset + 2) true) (offset + 3) true
