-- The pages that a step touches, as a list.
use Rattle.std.specs.Prelude.{ℕ, suc, Bool, true, ◌&&◌, ◌||◌, nat_le, List, [], ◌∷◌, map, filter}
use Rattle.std.specs.List.{range_with_len}
use Rattle.history_spec.specs.Before.{is_in}
use Rattle.memo_reports.specs.declared.races.touches.Touch.{Touch}

-- Whether slots ascend strictly, the first from this one on.
abbrev pub ascends : ℕ → List ℕ → Bool
ascends low [] = true
ascends low (p ∷ ps) = nat_le low p && ascends (suc p) ps

-- A touched page, and whether it is written.
abbrev pub touch_in : List ℕ → ℕ → Touch
touch_in written p = record { slot = p; writes = is_in p written }

-- The pages that are read or written, in ascending order.
abbrev pub touches_in : ℕ → List ℕ → List ℕ → List Touch
touches_in pages reads written =
    map (touch_in written) (filter (λ p. is_in p written || is_in p reads) (range_with_len 0 pages))
