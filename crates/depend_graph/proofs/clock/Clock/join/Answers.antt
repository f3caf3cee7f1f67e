-- The counts afterwards are the larger lanes of the two vectors.
use Rattle.std.proofs.Common.{ltb, ap, get_or, ◌∙◌, arith, w32}
use Rattle.std.specs.Simd.Lanes.{sel_l}
use Rattle.std.proofs.lemmas.Simd.{tops_compared}
use Rattle.depend_graph.proofs.Lanes.{larger_lanes}
use Rattle.depend_graph.proofs.clock.Clock.join.Goals as goal

pub returns-clause-larger : goal.returns-clause-larger
returns-clause-larger c t =
    let mine = c.self.inside.counts in
    let theirs = c.other.inside.counts in
    rw (← c.self.view_is, ← c.other.view_is)
    (ap (λ ms. get_or (sel_l ms theirs mine) t 0) (tops_compared w32 ltb mine theirs)
    ∙ larger_lanes mine theirs (omega (arith, c.self.invariant, c.other.invariant)) t)
