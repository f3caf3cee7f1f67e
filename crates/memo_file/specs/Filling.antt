-- A page that is filled with bytes at marked places, so far.
use Rattle.std.specs.Prelude.{◌≡◌, ℕ, zero, suc, ◌≤◌, Bool, false, List, [], ◌∷◌, length, take}
use Rattle.std.specs.List.{count_by}
use Rattle.thunk_spec.specs.Delta.{chosen}

-- The marks before a place, and none from it on.
abbrev pub filled : ℕ → List Bool → List Bool
filled p [] = []
filled zero (x ∷ m) = false ∷ filled zero m
filled (suc p) (x ∷ m) = x ∷ filled p m

-- A page is filled at the marks before place p, with the first `next` bytes.
pub record Filled (m : List Bool) (bytes : List ℕ) (p : ℕ) (marked : List Bool) (written : List ℕ) (next : ℕ) : Type 0
  where
    pub within : p ≤ length m
    pub mask : marked ≡ filled p m
    pub page : length written ≡ length m
    pub picked : chosen (take p m) written ≡ take next bytes
    pub count : next ≡ count_by (λ mark. mark) (take p m)
