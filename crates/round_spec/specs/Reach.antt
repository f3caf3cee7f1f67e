-- Which steps of a history a change of some pages can reach.
use Rattle.std.specs.Prelude.{◌≡◌, ℕ, zero, suc, ◌<◌, ◌==◌, ◌&&◌, ◌||◌, not, nat_le, Bool, true, false, List, [], map, length, filter, count_by, slice_index_or, if◌then◌else◌, Option, Some, None}
use Rattle.std.specs.List.{range_with_len}
use Rattle.std.specs.Str.{bytes_eq}
use Rattle.memory_spec.specs.Pages.{Memory, page_of}
use Rattle.thunk_spec.specs.Record.{Record}
use Rattle.machine_spec.specs.Setup.{Setup, start_memory}
use Rattle.history_spec.specs.History.{History}
use Rattle.history_spec.specs.Facts.{Fact, facts, read_slots}
use Rattle.history_spec.specs.Before.{is_in, meets, fact_at, is_next_at}
use Rattle.history_spec.specs.Ancestors.{any_below}

-- The slots that the step at a place reads, by those that each step reads.
abbrev pub read_at : List (List ℕ) → ℕ → List ℕ
read_at reads j = slice_index_or reads j []

-- Whether the step at place g gave its view to the thunk at the later place j.
abbrev pub gave_at : List Fact → ℕ → ℕ → Bool
gave_at fs g j = is_in (fact_at fs j).thread (fact_at fs g).given && is_next_at fs g j

-- Whether what the step at place w writes comes to the thunk at the later place j: w is at or before the step that gave
-- j's view, and writes a page that j reads.
abbrev pub comes_to : List Fact → List (List ℕ) → ℕ → ℕ → Bool
comes_to fs reads w j =
    any_below (λ g. nat_le w g && gave_at fs g j) j && meets (fact_at fs w).written (read_at reads j)

-- Whether the step at place i leads to the one at the later place j: j is the next step of i's thread, or what i writes
-- comes to j.
abbrev pub leads_to : List Fact → List (List ℕ) → ℕ → ℕ → Bool
leads_to fs reads i j =
    (((fact_at fs i).thread == (fact_at fs j).thread) && is_next_at fs i j) || comes_to fs reads i j

-- Whether a chain of fewer than n links leads to the step at place j from one that reads a changed page; one without
-- links leads from j itself.
abbrev pub reached_within : List Fact → List (List ℕ) → List ℕ → ℕ → ℕ → Bool
reached_within fs reads pages zero j = false
reached_within fs reads pages (suc n) j =
    meets pages (read_at reads j) || any_below (λ i. reached_within fs reads pages n i && leads_to fs reads i j) j

-- Whether changed pages reach the step at a place.
abbrev pub is_reached : List Fact → List (List ℕ) → List ℕ → ℕ → Bool
is_reached fs reads pages j = reached_within fs reads pages (suc j) j

-- For each step whether changed pages reach it.
abbrev pub reach : List Fact → List (List ℕ) → List ℕ → List Bool
reach fs reads pages = map (is_reached fs reads pages) (range_with_len 0 (length fs))

-- A set of steps that has each that reads a changed page, and each that one of the set leads to.
pub record IsClosedSet (fs : List Fact) (reads : List (List ℕ)) (pages : List ℕ) (among : ℕ → Bool) : Type 0 where
  pub start : (j : ℕ) → j < length fs → meets pages (read_at reads j) ≡ true → among j ≡ true
  pub led : (i j : ℕ) → i < j → j < length fs → among i ≡ true → leads_to fs reads i j ≡ true → among j ≡ true

-- One more than the last number below another of which a test holds, and 0 if there is none.
abbrev pub last_below : (ℕ → Bool) → ℕ → ℕ
last_below test zero = 0
last_below test (suc n) = if test n then suc n else last_below test n

-- One more than the place of the step that gave the thunk at place j its view, and 0 if that view is the start's.
abbrev pub giver_end : List Fact → ℕ → ℕ
giver_end fs j = last_below (λ g. gave_at fs g j) j

-- The slots that each step of a history reads.
abbrev pub reads_of : History → List (List ℕ)
reads_of h = map (λ (r : Record). read_slots r) h.records

-- The slots where two memories differ.
abbrev pub changed_slots : Memory → Memory → List ℕ
changed_slots a b = filter (λ p. not (bytes_eq (page_of a p) (page_of b p))) (range_with_len 0 (length a))

-- The slots of the pages where the start memories of two setups differ.
unfoldable pub changed : Setup → Setup → List ℕ
changed a b = changed_slots (start_memory a) (start_memory b)

-- For each step of a history whether a setup in place of its own reaches it.
abbrev pub reached_of : History → Setup → List Bool
reached_of h setup = reach (facts h) (reads_of h) (changed h.setup setup)

-- Of the history that a round is based on, the number of steps that the round's setup reaches; 0 without a history.
abbrev pub reached_count : Option History → Setup → ℕ
reached_count None setup = 0
reached_count (Some h) setup = count_by (λ (flag : Bool). flag) (reached_of h setup)
