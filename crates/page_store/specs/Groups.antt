-- A list in groups of one size, all full but the last.
use Rattle.std.specs.Prelude.{◌≡◌, ℕ, ◌-◌, ◌<◌, min, List, [], ◌∷◌, ◌++◌, length}

-- The elements of all groups, in order.
abbrev pub joined : {X : Type 0} → List (List X) → List X
joined [] = []
joined (group ∷ groups) = group ++ joined groups

-- These groups of a size have so many elements: all groups are full except the last, which has the rest and isn't
-- empty.
abbrev pub AreGroupsOf : {X : Type 0} → ℕ → ℕ → List (List X) → Type 0
AreGroupsOf size count [] = count ≡ 0
AreGroupsOf size count (group ∷ groups) =
    (0 < count) × (length group ≡ min count size) × AreGroupsOf size (count - size) groups
