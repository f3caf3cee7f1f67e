-- The steps so far are past, and each has its clock.
use Rattle.std.proofs.Common.{◌≡◌, ◌<◌, ℕ, [], length, slice_index_or}
use Rattle.depend_graph.specs.Joins.{IsClockOf}
use Rattle.depend_graph.specs.Past.{IsPastOf}
use Rattle.depend_graph.proofs.graph.Graph.of.Given as goal

abbrev pub invariant-loop-i : goal.invariant-loop-i
invariant-loop-i l = record {
  past : IsPastOf l.facts.items l.i l.past;
  many : length l.clocks.items ≡ l.i;
  each : (k : ℕ) → k < l.i → IsClockOf l.facts.items k (slice_index_or l.clocks.items k []);
}
