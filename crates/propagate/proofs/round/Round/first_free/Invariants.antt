-- The invariant of the loop of `Round::first_free`.
use Rattle.std.proofs.Common.{◌≡◌}
use Rattle.propagate.specs.Choosing.{leader_of, free_below}
use Rattle.propagate.proofs.round.Round.first_free.Given as goal

-- the best of the threads that were looked at
abbrev pub invariant-loop-t : goal.invariant-loop-t
invariant-loop-t l = l.leader ≡ leader_of l.self (free_below l.self l.t)
