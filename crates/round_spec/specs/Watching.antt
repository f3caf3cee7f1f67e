-- What is read of a round's progress while its workers make it.
use Rattle.std.specs.Prelude.{◌≡◌, ℕ, ◌+◌, ◌≤◌, List, [], ◌∷◌, length, Some, None}
use Rattle.std.specs.List.{last_or}
use Rattle.std.specs.List.Sorted.{IsStrictlyIncreasing}
use Rattle.round_spec.specs.declared.TheConstants.{MOST_LOOKS}

-- The numbers of steps that are read of a round of so many steps while so many workers make it: they ascend strictly;
-- there are `MOST_LOOKS` at most, and one for the end; the last is how many steps the round has; and of one worker that
-- number alone is read.
pub record IsProgress (workers steps : ℕ) (numbers : List ℕ) : Type 0 where
  pub ascends : IsStrictlyIncreasing numbers
  pub few : length numbers ≤ MOST_LOOKS + 1
  pub last : last_or None numbers ≡ Some steps
  pub alone : workers ≡ 1 → numbers ≡ steps ∷ []
