-- The invariant of the loop of `work`.
use Rattle.std.specs.Prelude.{◌≤◌}
use Rattle.rerun_workers.proofs.working.work.Given as goal

-- the worker lost no step
abbrev pub invariant-loop : goal.invariant-loop
invariant-loop g l = l.fn.pass.steps ≤ l.pass.steps
