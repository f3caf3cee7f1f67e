-- The clocks of the pages so far were joined into it.
use Rattle.std.proofs.Common.{◌≡◌, ℕ, max, take, slice_index}
use Rattle.depend_graph.specs.Clocks.{page_clock, largest_at}
use Rattle.depend_graph.proofs.pages.PageClocks.join_into.Given as goal

abbrev pub invariant-loop-slot : goal.invariant-loop-slot
invariant-loop-slot l =
    (u : ℕ) → slice_index l.clock u
    ≡ max (slice_index l.initial.clock u) (largest_at (page_clock l.self) (take l.slot-index l.slots) u)
