-- The invariant of the loop of `known`.
use Rattle.std.proofs.Common.{◌≡◌, ◌++◌, true, drop}
use Rattle.history_spec.specs.Facts as order
use Rattle.history_facts.specs.PendingFacts.{facts_to_come}
use Rattle.release_core.specs.Applying.{machine_at}
use Rattle.history_facts.specs.Outlining.{IsOutlineOf}
use Rattle.history_facts.proofs.known.Given as goal

-- the facts so far, with those that are still to come, are all; and the outline is of the machine before a place
abbrev pub invariant-loop-place : goal.invariant-loop-place
invariant-loop-place l = record {
  come : l.facts.items ++ facts_to_come true (order.reads_in l.records) (machine_at l.fn.history l.place)
      (drop l.place l.records) ≡ order.facts l.fn.history;
  outline : IsOutlineOf (machine_at l.fn.history l.place) l.outline;
}
