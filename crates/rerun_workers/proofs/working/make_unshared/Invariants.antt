-- The invariant of the loop of `make_unshared`.
use Rattle.std.specs.Prelude.{◌≤◌}
use Rattle.rerun_workers.proofs.working.make_unshared.Given as goal

-- the worker lost no step
abbrev pub invariant-loop : goal.invariant-loop
invariant-loop g l = l.fn.pass.steps ≤ l.pass.steps
