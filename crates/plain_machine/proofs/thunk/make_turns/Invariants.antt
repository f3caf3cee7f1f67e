-- The invariant of the loop of `make_turns`.
use Rattle.std.proofs.Common.{◌≡◌, ◌+◌, ◌-◌, ◌≤◌}
use Rattle.plain_machine.specs.Turning.{outcome_after, counted}
use Rattle.plain_machine.proofs.thunk.make_turns.Given as goal

abbrev pub invariant-loop-count : goal.invariant-loop-count
invariant-loop-count l = record {
  few : l.count ≤ l.fuel;
  counter : l.turns ≡ l.fn.turns + l.count;
  map : l.work.map ≡ l.fn.work.map;
  outcome : counted l.count (outcome_after l.work.map (l.fuel - l.count) l.work.memory l.work.stored l.regs)
      ≡ outcome_after l.fn.work.map l.fuel l.fn.work.memory l.fn.work.stored l.fn.regs;
}

abbrev pub decreases-loop-count : goal.decreases-loop-count
decreases-loop-count l = l.fuel - l.count
