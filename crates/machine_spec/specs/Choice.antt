-- The choice of the next thread in a run that isn't based on an earlier one.
use Rattle.std.specs.Prelude.{ℕ, zero, suc, Bool, ◌&&◌, ◌==◌, min, List, [], ◌∷◌, map, filter, position, Option, Some, None}
use Rattle.machine_spec.specs.declared.states.End.{End}
use Rattle.machine_spec.specs.Machine.{Hart, Machine, is_ready}
use Rattle.machine_spec.specs.Step.{step}
use Rattle.machine_spec.specs.Setup.{Setup, first}

-- The least of some numbers.
abbrev pub least : List ℕ → ℕ
least [] = 0
least (n ∷ []) = n
least (n ∷ other ∷ rest) = min n (least (other ∷ rest))

-- How many steps each ready thread has made.
abbrev pub ready_numbers : List Hart → List ℕ
ready_numbers harts = map (λ (h : Hart). h.number) (filter (λ (h : Hart). is_ready h.status) harts)

-- Whether a thread is ready and has made so many steps.
abbrev pub is_ready_at : ℕ → Hart → Bool
is_ready_at number h = is_ready h.status && (h.number == number)

-- The ready thread that has made the fewest steps, and of these the one of the lowest number.
unfoldable pub choice : Machine → Option ℕ
choice m = position (is_ready_at (least (ready_numbers m.harts))) m.harts

-- A schedule from a state on: nothing after an end, or if no thread is chosen; else the chosen thread and the rest.
abbrev pub chosen_first : Option End → Option ℕ → (ℕ → List ℕ) → List ℕ
chosen_first (Some e) chosen rest = []
chosen_first None None rest = []
chosen_first None (Some t) rest = t ∷ rest t

-- The schedule that follows the choice until an end, for so many steps at most.
abbrev pub alone_from : ℕ → Machine → List ℕ
alone_from zero m = []
alone_from (suc steps) m = chosen_first m.ending (choice m) (λ t. alone_from steps (step m t))

-- The schedule of one worker with no earlier run.
abbrev pub alone : Setup → List ℕ
alone s = alone_from s.limit (first s)
