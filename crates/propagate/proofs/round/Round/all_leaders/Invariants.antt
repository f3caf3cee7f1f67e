-- The invariant of the loop of `Round::all_leaders`.
use Rattle.propagate.specs.Choosing.{AreLeadersBelow}
use Rattle.propagate.proofs.round.Round.all_leaders.Given as goal

-- the leaders of the threads that were looked at
abbrev pub invariant-loop-t : goal.invariant-loop-t
invariant-loop-t l = AreLeadersBelow l.self l.t l.found
