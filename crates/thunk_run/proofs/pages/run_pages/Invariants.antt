-- The invariant of the loop of `run_pages`.
use Rattle.std.proofs.Common.{◌≡◌, ℕ, ◌+◌, ◌-◌, ◌≤◌}
use Rattle.thunk_run.specs.TurnsOutcome.{outcome_after, counted}
use Rattle.thunk_run.specs.Seeing.{AreSeen}
use Rattle.thunk_run.proofs.pages.run_pages.Given as goal

abbrev pub invariant-loop-count : goal.invariant-loop-count
invariant-loop-count g l = record {
  few : l.count ≤ l.room;
  counter : l.turns ≡ l.fn.turns + l.count;
  seen : AreSeen l.code (g.M.Mem.workspace l.mem).view l.seen;
  outcome : (fuel : ℕ) → l.room ≤ fuel
      → counted l.count (outcome_after (fuel - l.count) (g.M.Mem.workspace l.mem) l.regs)
      ≡ outcome_after fuel (g.M.Mem.workspace l.fn.mem) l.fn.regs;
}

abbrev pub decreases-loop-count : goal.decreases-loop-count
decreases-loop-count g l = l.room - l.count
