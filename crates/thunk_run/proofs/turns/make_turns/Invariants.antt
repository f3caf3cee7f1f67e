-- The invariant of the loop of `make_turns`.
use Rattle.std.proofs.Common.{◌≡◌, ◌+◌, ◌-◌, ◌≤◌, ◌⊎◌, false}
use Rattle.thunk_run.specs.TurnsOutcome.{outcome_after, counted}
use Rattle.thunk_run.specs.Seeing.{AreSeen}
use Rattle.thunk_run.proofs.turns.make_turns.Given as goal

abbrev pub invariant-loop-count : goal.invariant-loop-count
invariant-loop-count g l = record {
  few : l.count ≤ l.fuel;
  room : (l.count ≤ l.until) × (l.until ≤ l.fuel);
  until : (l.until ≡ l.fuel) ⊎ ((l.reported ≡ false) × (3072 ≤ l.until));
  counter : l.turns ≡ l.fn.turns + l.count;
  seen : AreSeen l.code (g.M.Mem.workspace l.mem).view l.seen;
  outcome : counted l.count (outcome_after (l.fuel - l.count) (g.M.Mem.workspace l.mem) l.regs)
      ≡ outcome_after l.fuel (g.M.Mem.workspace l.fn.mem) l.fn.regs;
}

abbrev pub decreases-loop-count : goal.decreases-loop-count
decreases-loop-count g l = l.fuel - l.count
