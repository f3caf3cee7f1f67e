-- A number that was read from bytes is encoded by these bytes.
use Rattle.std.proofs.Common.{◌≡◌, ℕ, ◌<◌, List, length, get_or, arith, ◌∙◌}
use Rattle.std.specs.Int.{from_le_bytes, w16, w32, w64}
use Rattle.std.proofs.lemmas.Nat.{le_bytes_2, le_bytes_4, le_bytes_8}
use Rattle.byteorder.specs.Endian.{little_number, little_bytes}

little_number-two : (xs : List ℕ) → little_number 2 xs ≡ from_le_bytes w16 xs
little_number-two xs = omega arith

little_number-four : (xs : List ℕ) → little_number 4 xs ≡ from_le_bytes w32 xs
little_number-four xs = omega arith

little_number-eight : (xs : List ℕ) → little_number 8 xs ≡ from_le_bytes w64 xs
little_number-eight xs = omega arith

pub encoded_two :
    (xs : List ℕ) (n : ℕ) → length xs ≡ 2 → ((i : ℕ) → get_or xs i 0 < 256) → n ≡ little_number 2 xs
    → little_bytes 2 n ≡ xs
encoded_two xs n count fits is = le_bytes_2 xs n count fits (is ∙ little_number-two xs)

pub encoded_four :
    (xs : List ℕ) (n : ℕ) → length xs ≡ 4 → ((i : ℕ) → get_or xs i 0 < 256) → n ≡ little_number 4 xs
    → little_bytes 4 n ≡ xs
encoded_four xs n count fits is = le_bytes_4 xs n count fits (is ∙ little_number-four xs)

pub encoded_eight :
    (xs : List ℕ) (n : ℕ) → length xs ≡ 8 → ((i : ℕ) → get_or xs i 0 < 256) → n ≡ little_number 8 xs
    → little_bytes 8 n ≡ xs
encoded_eight xs n count fits is = le_bytes_8 xs n count fits (is ∙ little_number-eight xs)
