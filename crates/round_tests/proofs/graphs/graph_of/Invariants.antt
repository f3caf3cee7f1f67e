-- The threads so far are few.
use Rattle.std.proofs.Common.{ℕ, ◌<◌, slice_index_or}
use Rattle.guest_call.specs.declared.thread_number.TheConstants.{THREADS}
use Rattle.history_spec.specs.Facts.{Fact}
use Rattle.round_tests.proofs.graphs.graph_of.Given as goal

abbrev pub invariant-loop-fact : goal.invariant-loop-fact
invariant-loop-fact g l =
    (k : ℕ) (d : Fact) → k < l.fact-index → (slice_index_or l.fact-items k d).thread < THREADS
