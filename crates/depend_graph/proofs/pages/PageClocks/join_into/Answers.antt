-- The clock of one more page was joined into it.
use Rattle.std.proofs.Common.{arith}
use Rattle.depend_graph.specs.Clocks.{page_clock}
use Rattle.depend_graph.proofs.Largest.{largest_more}
use Rattle.depend_graph.proofs.pages.PageClocks.join_into.Goals as goal

pub loop-slot-preserved : goal.loop-slot-preserved
loop-slot-preserved c =
    λ u.
    let more = largest_more (page_clock c.args.self.now) c.args.slots.now c.loop-slot.slot-index 0 u (omega arith) in
    let before = c.loop-slot.invariant u in
    let joined = c.join_one_into.ensures u in
    omega arith
