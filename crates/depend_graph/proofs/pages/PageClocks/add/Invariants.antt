-- The clock was joined to those of the pages so far.
use Rattle.std.proofs.Common.{take}
use Rattle.depend_graph.specs.Clocks.{page_clock}
use Rattle.depend_graph.proofs.Adding.{IsAdded}
use Rattle.depend_graph.proofs.pages.PageClocks.add.Given as goal

abbrev pub invariant-loop-slot : goal.invariant-loop-slot
invariant-loop-slot l =
    IsAdded (λ p. Unit {0}) (page_clock l.initial.self) (page_clock l.self) l.clock (take l.slot-index l.slots)
