-- The threads so far were given a view.
use Rattle.std.proofs.Common.{take}
use Rattle.depend_graph.proofs.Reached.{IsGiven}
use Rattle.depend_graph.proofs.reaching.give.Given as goal

abbrev pub invariant-loop-t : goal.invariant-loop-t
invariant-loop-t l = IsGiven l.initial.ends l.ends (take l.t-index l.threads) l.end
