-- The first races, row by row.
use Rattle.std.specs.Prelude.{◌≡◌, ◌==◌, ℕ, List, length, map}
use Rattle.std.specs.List.{filter, flat_map}
use Rattle.round_spec.specs.declared.Race.{Race}
use Rattle.memo_reports.specs.declared.races.touches.Touch.{Touch}
use Rattle.memo_reports.specs.declared.races.past.Access.{Access}
use Rattle.memo_reports.specs.declared.races.rows.FirstRaces.{FirstRaces}

-- The race of an access with the step at a later place, for a page that the later one touches.
abbrev pub race_with : ℕ → Touch → Access → Race
race_with j t a =
    record { earlier = a.place; later = j; slot = t.slot; earlier_writes = a.writes; later_writes = t.writes }

-- The races of the accesses of the step at a place with that at a later one.
abbrev pub races_in : ℕ → ℕ → Touch → List Access → List Race
races_in i j t accesses = map (race_with j t) (filter (λ (a : Access). a.place == i) accesses)

-- `many` is the number of races of the rows.
abbrev pub IsCounted : FirstRaces → Type 0
IsCounted f = f.many ≡ length (flat_map (λ (row : List Race). row) f.rows.items)
