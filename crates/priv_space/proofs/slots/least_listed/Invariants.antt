-- What was found is the least of the places so far.
use Rattle.priv_space.specs.Held.{FindsLeast}
use Rattle.priv_space.proofs.slots.least_listed.Given as goal

abbrev pub invariant-loop-place : goal.invariant-loop-place
invariant-loop-place l = FindsLeast l.listed l.place l.from l.least
