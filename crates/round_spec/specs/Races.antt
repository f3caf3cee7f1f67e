-- Which pairs of steps race, and for which page.
use Rattle.std.specs.Prelude.{ℕ, Bool, ◌==◌, ◌&&◌, ◌||◌, not, nat_lt, List, map, length, filter}
use Rattle.std.specs.List.{range_with_len, flat_map}
use Rattle.machine_spec.specs.Setup.{map_of}
use Rattle.history_spec.specs.History.{History}
use Rattle.history_spec.specs.Facts.{Fact, facts}
use Rattle.history_spec.specs.Before.{is_in, fact_at}
use Rattle.round_spec.specs.Reach.{read_at, reads_of}
use Rattle.round_spec.specs.declared.Race.{Race}
use Rattle.round_spec.specs.Sync.{is_ordered}

-- Whether the step at place i writes the page in slot p.
abbrev pub writes_at : List Fact → ℕ → ℕ → Bool
writes_at fs i p = is_in p (fact_at fs i).written

-- Whether it touches the page: it writes it, or its own thunk reads it, by what each thunk reads.
abbrev pub touches_at : List Fact → List (List ℕ) → ℕ → ℕ → Bool
touches_at fs reads i p = writes_at fs i p || is_in p (read_at reads i)

-- Whether the steps at places i and j race for the page in slot p: i is the earlier one, their threads differ, both
-- touch the page, one of them writes it, and i doesn't come before j's thunk.
unfoldable pub is_race : List Fact → List (List ℕ) → ℕ → ℕ → ℕ → Bool
is_race fs reads i j p =
    (nat_lt i j && not ((fact_at fs i).thread == (fact_at fs j).thread))
    && ((touches_at fs reads i p && touches_at fs reads j p)
    && ((writes_at fs i p || writes_at fs j p) && not (is_ordered fs i j)))

-- The race of two steps for a page.
abbrev pub race_at : List Fact → ℕ → ℕ → ℕ → Race
race_at fs i j p =
    record {
      earlier = i;
      later = j;
      slot = p;
      earlier_writes = writes_at fs i p;
      later_writes = writes_at fs j p;
    }

-- The races of the steps at places i and j, in the order of so many pages.
abbrev pub races_between : List Fact → List (List ℕ) → ℕ → ℕ → ℕ → List Race
races_between fs reads pages i j = map (race_at fs i j) (filter (is_race fs reads i j) (range_with_len 0 pages))

-- The races of the step at place i with so many steps, in their order.
abbrev pub races_from : List Fact → List (List ℕ) → ℕ → ℕ → ℕ → List Race
races_from fs reads pages steps i = flat_map (races_between fs reads pages i) (range_with_len 0 steps)

-- The races of a history: by the earlier step, then by the later one, then by the page.
unfoldable pub races_of : History → List Race
races_of h =
    flat_map (races_from (facts h) (reads_of h) (length (map_of h.setup)) (length h.records))
    (range_with_len 0 (length h.records))
