-- The invariant of the loop of `made_for`.
use Rattle.std.proofs.Common.{◌≡◌, ◌<◌, ◌≤◌, ℕ, length, slice_index, nat_le}
use Rattle.guest_call.specs.declared.thread_number.TheConstants.{THREADS}
use Rattle.propagate.specs.Choosing.{has_made}
use Rattle.propagate.proofs.picking.made_for.Given as goal

-- the threads that were looked at have their numbers of steps, and the others 0
abbrev pub invariant-loop-t : goal.invariant-loop-t
invariant-loop-t l = record {
  long : length l.made ≡ THREADS;
  done :
      (u : ℕ) → u < l.t
      → nat_le (slice_index l.clock u) (slice_index l.made u) ≡ has_made l.core u (slice_index l.clock u);
  rest : (u : ℕ) → l.t ≤ u → slice_index l.made u ≡ 0;
}
