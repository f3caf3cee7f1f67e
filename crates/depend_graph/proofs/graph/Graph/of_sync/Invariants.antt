-- The facts so far without their pages.
use Rattle.std.proofs.Common.{◌≡◌, map, take}
use Rattle.round_spec.specs.Sync.{sync_fact}
use Rattle.depend_graph.proofs.graph.Graph.of_sync.Given as goal

abbrev pub invariant-loop-fact : goal.invariant-loop-fact
invariant-loop-fact l = l.synced.items ≡ map sync_fact (take l.fact-index l.facts)
