-- What a buffer shows of an input.
use Rattle.std.specs.Prelude.{ℕ, ◌≡◌, ◌<◌, ◌≤◌, List, slice_index_or}

-- a buffer has the first bytes of an input, as many as this, and zeros from there on; past their ends both have zeros
abbrev pub Shows : List ℕ → List ℕ → ℕ → Type 0
Shows buffer input count =
    (p : ℕ)
    → (p < count → slice_index_or buffer p 0 ≡ slice_index_or input p 0) × (count ≤ p → slice_index_or buffer p 0 ≡ 0)
