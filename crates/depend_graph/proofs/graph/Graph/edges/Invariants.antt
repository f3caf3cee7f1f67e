-- The places so far of steps that come directly before.
use Rattle.std.proofs.Common.{◌≡◌, filter}
use Rattle.std.specs.List.{range_with_len}
use Rattle.history_spec.specs.Before.{before_at}
use Rattle.depend_graph.proofs.graph.Graph.edges.Given as goal

abbrev pub invariant-loop-j : goal.invariant-loop-j
invariant-loop-j l = l.places.items ≡ filter (λ j. before_at l.self j l.i) (range_with_len 0 l.j)
