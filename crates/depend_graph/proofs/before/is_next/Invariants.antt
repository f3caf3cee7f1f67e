-- No step so far is of the thread.
use Rattle.std.proofs.Common.{◌≡◌, ◌||◌, not, eqb, leb, true}
use Rattle.history_spec.specs.Before.{fact_at, all_below}
use Rattle.depend_graph.proofs.before.is_next.Given as goal

abbrev pub invariant-loop-k : goal.invariant-loop-k
invariant-loop-k l = all_below (λ k. leb k l.i || not (eqb (fact_at l.facts k).thread l.t)) l.k ≡ true
