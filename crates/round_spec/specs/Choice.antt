-- The choice of the next thread, and what a worker may do next.
use Rattle.std.specs.Prelude.{ℕ, Bool, true, false, ◌==◌, if◌then◌else◌, List, [], ◌∷◌, length, map, filter, Option, Some, None}
use Rattle.std.specs.List.{list_any, range_with_len}
use Rattle.machine_spec.specs.Machine.{Machine, hart_of}
use Rattle.machine_spec.specs.Choice.{least}
use Rattle.history_spec.specs.History.{History}
use Rattle.round_spec.specs.declared.events.Pick.{Pick}
use Rattle.round_spec.specs.declared.events.Pick.TheVariants as pick
use Rattle.round_spec.specs.Marks.{fits_next}
use Rattle.round_spec.specs.Rounds.{RoundState, is_finished, is_free_in}
use Rattle.round_spec.specs.Due.{place_in, is_due}

-- The threads that are ready and not in flight, in ascending order.
unfoldable pub free_threads : Machine → List Bool → List ℕ
free_threads m in_flight = filter (is_free_in m in_flight) (range_with_len 0 (length m.harts))

-- Those of some threads at which a measure is least.
unfoldable pub least_by : (ℕ → ℕ) → List ℕ → List ℕ
least_by measure threads = filter (λ t. measure t == least (map measure threads)) threads

-- The first of some threads, if there is any.
abbrev pub first_of : List ℕ → Option ℕ
first_of [] = None
first_of (t ∷ threads) = Some t

-- Of some threads, the first of those that have made the fewest steps among those whose next step has the least place
-- in the history; a step that isn't there comes last.
unfoldable pub best : Option History → Machine → List ℕ → Option ℕ
best past m threads = first_of (least_by (λ t. (hart_of m t).number) (least_by (place_in past m) threads))

-- Whether any thread is in flight.
abbrev pub is_any_in_flight : List Bool → Bool
is_any_in_flight in_flight = list_any (λ flag. flag) in_flight

-- The threads that may be chosen: the free threads that are due, or, if none is due and no thread is in flight, every
-- free thread.
abbrev pub eligible : List ℕ → List ℕ → Bool → List ℕ
eligible (t ∷ due) free any_out = t ∷ due
eligible [] free true = []
eligible [] free false = free

-- The thread that is chosen, based on a history if there is one, if one is chosen.
unfoldable pub choice_by : Option History → Machine → List Bool → Option ℕ
choice_by past m in_flight =
    best past m (eligible (filter (is_due past m) (free_threads m in_flight)) (free_threads m in_flight) (is_any_in_flight in_flight))

-- What to do with a choice: reuse its record if it fits, else execute its step; without a choice, wait.
abbrev pub with_choice : Option History → Machine → Option ℕ → Pick
with_choice past m (Some t) = if fits_next past m t then pick.Reuse t else pick.Run t
with_choice past m None = pick.Hold

-- What a worker may do next.
unfoldable pub pick_of : RoundState → Pick
pick_of w = if is_finished w then pick.Over else with_choice w.past w.machine (choice_by w.past w.machine w.in_flight)
