-- The clocks of the threads so far were joined into it.
use Rattle.std.proofs.Common.{◌≡◌, ℕ, max, slice_index}
use Rattle.depend_graph.specs.Clocks.{thread_clock, largest_below}
use Rattle.depend_graph.proofs.threads.ThreadClocks.join_all_into.Given as goal

abbrev pub invariant-loop-t : goal.invariant-loop-t
invariant-loop-t l =
    (u : ℕ) → slice_index l.clock u ≡ max (slice_index l.initial.clock u) (largest_below (thread_clock l.self) l.t u)
