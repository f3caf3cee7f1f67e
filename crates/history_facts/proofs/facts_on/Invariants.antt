-- The invariant of the loop of `facts_on`.
use Rattle.std.proofs.Common.{◌≡◌, ◌++◌, drop}
use Rattle.history_spec.specs.Facts as order
use Rattle.history_facts.specs.PendingFacts.{facts_to_come}
use Rattle.history_facts.proofs.PendingFacts.{AreLeft}
use Rattle.history_facts.proofs.facts_on.Given as goal

-- the facts so far, with those that are still to come, are all; and so are the records
abbrev pub invariant-loop-place : goal.invariant-loop-place
invariant-loop-place l = record {
  come : l.facts.items ++ facts_to_come l.fits (order.reads_in l.records) l.replay (drop l.place l.records)
      ≡ order.facts_from (order.reads_in l.records) l.fn.replay l.records;
  left : AreLeft l.fn.replay l.records l.fits l.replay (drop l.place l.records);
}
