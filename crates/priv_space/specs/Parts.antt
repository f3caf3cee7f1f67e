-- What one slot adds to the read pages and to the stored bytes.
use Rattle.std.specs.Prelude.{ℕ, Bool, if◌then◌else◌, List, [], ◌∷◌}
use Rattle.thunk_spec.specs.Delta.{PageDelta, chosen, is_stored}
use Rattle.thunk_spec.specs.Reads.{ReadPage}

-- The read page of a slot, if a byte was taken from it.
abbrev pub read_part : ℕ → Bool → List ℕ → List ReadPage
read_part slot taken page = if taken then (record { slot = slot; bytes = page }) ∷ [] else []

-- The stored bytes of a slot, if a byte was stored to it.
abbrev pub delta_part : ℕ → List Bool → List ℕ → List PageDelta
delta_part slot mask page =
    if is_stored mask then (record { slot = slot; mask = mask; bytes = chosen mask page }) ∷ [] else []
