-- The limits of a run: the fuel of a thunk and the step limit, and their bounds.
use Rattle.std.specs.Prelude.{ℕ, ◌≤◌}
use Rattle.machine_spec.specs.declared.TheConstants.{MOST_FUEL, MOST_STEPS}

-- The most turns of a thunk, and the most steps of a run.
pub record Limits : Type 0 where
  pub fuel : ℕ
  pub steps : ℕ

-- A fuel and a step limit that a run may have: each is at least one, and at most the largest of its kind.
pub record AreLimits (fuel : ℕ) (limit : ℕ) : Type 0 where
  pub some_fuel : 1 ≤ fuel
  pub most_fuel : fuel ≤ MOST_FUEL
  pub some_steps : 1 ≤ limit
  pub most_steps : limit ≤ MOST_STEPS
