-- The invariant of the loop of `Times::give_by`.
use Rattle.std.proofs.Common.{◌≡◌, ◌<◌, ◌≤◌, ℕ, length, slice_index}
use Rattle.guest_call.specs.declared.thread_number.TheConstants.{THREADS}
use Rattle.known_pages.specs.Versions.{viewed_after}
use Rattle.known_pages.proofs.times.Times.give_by.Given as goal

-- the times of the threads that were looked at are as after the step, and those of the others as before
abbrev pub invariant-loop-u : goal.invariant-loop-u
invariant-loop-u l = record {
  done :
      (u : ℕ) → u < l.u
      → slice_index l.self.viewed u ≡ viewed_after l.core l.t u (slice_index l.fn.self.viewed u) l.now;
  rest : (u : ℕ) → l.u ≤ u → slice_index l.self.viewed u ≡ slice_index l.fn.self.viewed u;
  count : length l.self.viewed ≡ THREADS;
  written : l.self.written.items ≡ l.fn.self.written.items;
}
