-- The invariant of the loop of `note_views`.
use Rattle.std.proofs.Common.{◌≡◌, ◌<◌, ◌≤◌, ◌==◌, ◌&&◌, ◌||◌, not, false, ℕ, if◌then◌else◌, slice_index, slice_index_or}
use Rattle.machine_spec.specs.Machine.{hart_of, is_ready}
use Rattle.ith_commands.proofs.reasons.walking.note_views.Given as goal

-- the threads so far are noted, and the others are as they were
abbrev pub invariant-loop-t : goal.invariant-loop-t
invariant-loop-t l = record {
  noted : (k : ℕ) → k < l.t → slice_index l.since k
      ≡ (if is_ready (hart_of l.core k).status && ((l.thread == k) || not (slice_index_or l.before k false))
      then l.count else slice_index l.fn.since k);
  same : (k : ℕ) → l.t ≤ k → slice_index l.since k ≡ slice_index l.fn.since k;
}
