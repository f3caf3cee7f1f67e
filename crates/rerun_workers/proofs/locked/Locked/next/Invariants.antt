-- The invariant of the loop of `Locked::next`.
use Rattle.std.specs.Prelude.{◌≡◌, ◌+◌, ◌-◌, ◌≤◌, ℕ, length}
use Rattle.rerun_workers.specs.Locking.{settled, Counts}
use Rattle.rerun_workers.proofs.locked.Locked.next.Given as goal

-- this many picked records were reused, each as a step of the worker
abbrev pub invariant-loop-t : goal.invariant-loop-t
invariant-loop-t g l =
    ((n : ℕ) × (l.self.round ≡ settled n l.fn.self.round))
    × Counts l.fn.pass.steps l.fn.self.round l.pass.steps l.self.round
    × (l.fn.pass.steps ≤ l.pass.steps)
    × (l.pass.asked.number ≡ l.fn.pass.asked.number + 1)
    × (l.pass.taken.number ≡ l.fn.pass.taken.number)

abbrev pub decreases-loop-t : goal.decreases-loop-t
decreases-loop-t g l = 65536 - length l.self.round.schedule
