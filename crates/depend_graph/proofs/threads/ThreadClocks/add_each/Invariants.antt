-- The clock was joined to those of the threads so far.
use Rattle.std.proofs.Common.{◌<◌, take}
use Rattle.guest_call.specs.declared.thread_number.TheConstants.{THREADS}
use Rattle.depend_graph.specs.Clocks.{thread_clock}
use Rattle.depend_graph.proofs.Adding.{IsAdded}
use Rattle.depend_graph.proofs.threads.ThreadClocks.add_each.Given as goal

abbrev pub invariant-loop-t : goal.invariant-loop-t
invariant-loop-t l =
    IsAdded (λ u. u < THREADS) (thread_clock l.initial.self) (thread_clock l.self) l.clock (take l.t-index l.threads)
