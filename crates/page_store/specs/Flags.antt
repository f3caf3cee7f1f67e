-- Marks of the places of a page, kept as the bits of words.
use Rattle.std.specs.Prelude.{ℕ, ◌/◌, ◌%◌, ◌==◌, Bool, List, map, slice_index}
use Rattle.std.specs.List.{range_with_len}
use Rattle.std.specs.Int.{bit_at}
use Rattle.memory_spec.specs.declared.TheConstants.{PAGE_SIZE}

-- Whether a place is marked: place k is bit k % 64 of word k / 64.
abbrev pub flag_in : List ℕ → ℕ → Bool
flag_in words k = bit_at (slice_index words (k / 64)) (k % 64) == 1

-- The marks of the first places.
abbrev pub flags_in : ℕ → List ℕ → List Bool
flags_in count words = map (flag_in words) (range_with_len 0 count)

-- The marks of a page's places.
unfoldable pub flags_of : List ℕ → List Bool
flags_of words = flags_in PAGE_SIZE words
