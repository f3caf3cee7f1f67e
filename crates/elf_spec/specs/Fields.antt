-- The numbers in a file, at an offset. Past the file's end there are zeros.
use Rattle.std.specs.Prelude.{ℕ, List, drop}
use Rattle.std.specs.Int.{from_le_bytes, w16, w32}

-- the half-word of two bytes at an offset, the lower byte first (System V gABI, ch. 4, Data Representation and Data
-- Encoding)
unfoldable pub u16_at : List ℕ → ℕ → ℕ
u16_at bytes offset = from_le_bytes w16 (drop offset bytes)

-- the word of four bytes at an offset, the lowest byte first (System V gABI, ch. 4, Data Representation and Data
-- Encoding)
unfoldable pub u32_at : List ℕ → ℕ → ℕ
u32_at bytes offset = from_le_bytes w32 (drop offset bytes)
