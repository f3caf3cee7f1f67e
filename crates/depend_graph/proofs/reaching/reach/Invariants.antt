-- Whether the first steps are reached is found, and what later steps need of them is kept.
use Rattle.std.proofs.Common.{◌≡◌, map}
use Rattle.std.specs.List.{range_with_len}
use Rattle.round_spec.specs.Reach.{is_reached}
use Rattle.depend_graph.specs.Reaching.{slots_of_each, IsReachedPast}
use Rattle.depend_graph.proofs.reaching.reach.Given as goal

abbrev pub invariant-loop-i : goal.invariant-loop-i
invariant-loop-i l = record {
  past : IsReachedPast l.facts (slots_of_each l.reads) l.changed l.i l.past;
  flags : l.flags.items ≡ map (is_reached l.facts (slots_of_each l.reads) l.changed) (range_with_len 0 l.i);
}
