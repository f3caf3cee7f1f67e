-- No place so far has a bit that the union of all lacks.
use Rattle.std.proofs.Common.{ℕ, ◌+◌, ◌<◌, ◌≤◌, get_or}
use Rattle.priv_space.proofs.slots.is_clear.Given as goal

abbrev pub invariant-loop-k : goal.invariant-loop-k
invariant-loop-k l = (k : ℕ) → l.start ≤ k → k < l.start + l.k → get_or l.places k 0 ≤ l.all
