-- The clock was joined to that of one more page.
use Rattle.std.proofs.Common.{arith}
use Rattle.std.proofs.lemmas.List.{take_all}
use Rattle.depend_graph.specs.Clocks.{page_clock}
use Rattle.depend_graph.proofs.Adding.{added-more}
use Rattle.depend_graph.proofs.pages.PageClocks.add.Goals as goal

pub loop-slot-preserved : goal.loop-slot-preserved
loop-slot-preserved c =
    added-more (λ p. Unit {0}) (page_clock c.args.self.now) (page_clock c.loop-slot.self)
    (page_clock c.add_one.new.self)
    c.args.clock.now c.args.slots.now c.loop-slot.slot-index (omega arith) c.loop-slot.invariant
    (λ there. c.in_ok-add_one.ensures.at) c.in_ok-add_one.ensures.others

pub returns-clause-at : goal.returns-clause-at
returns-clause-at c =
    λ p is.
    let all = take_all c.loop-slot.slot-index c.args.slots.now c.loop-slot-test.false in
    c.loop-slot.invariant.at p tt (rw all is)
