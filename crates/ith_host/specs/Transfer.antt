-- What a transfer takes from a source whose bytes are known.
use Rattle.std.specs.Prelude.{ℕ, ◌≤◌, List, length, Option}
use Rattle.std.specs.Io.KnownBytes.{Consumes}

-- No more bytes than a number were taken from the front of the known bytes.
abbrev pub TakesAtMost : ℕ → Option (List ℕ) → Option (List ℕ) → Type 0
TakesAtMost most before after = (bytes : List ℕ) × Consumes before after bytes × (length bytes ≤ most)
