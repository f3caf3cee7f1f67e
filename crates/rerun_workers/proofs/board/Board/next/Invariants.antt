-- The invariant of the loop of `Board::next`.
use Rattle.std.specs.Prelude.{◌≡◌, ◌≤◌}
use Rattle.rerun_workers.proofs.board.Board.next.Given as goal

-- the worker lost no step, asked what to do no less often, and was assigned no step
abbrev pub invariant-loop : goal.invariant-loop
invariant-loop g l = (l.fn.pass.steps ≤ l.pass.steps) × (l.fn.pass.asked.number ≤ l.pass.asked.number)
    × (l.pass.taken.number ≡ l.fn.pass.taken.number)
