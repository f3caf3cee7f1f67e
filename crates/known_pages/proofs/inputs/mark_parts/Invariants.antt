-- The invariant of the loop of `mark_parts`.
use Rattle.std.proofs.Common.{◌≡◌, ◌<◌, ◌+◌, ℕ, false}
use Rattle.machine_spec.specs.Setup.{input_page}
use Rattle.known_pages.specs.Alike.{is_marked}
use Rattle.known_pages.specs.Starts.{HasMore}
use Rattle.known_pages.proofs.inputs.mark_parts.Given as goal

-- the pages so far are marked if they differ
pub record IsMarkedSoFar (first k : ℕ) (old new : _) (before marks : _) : Type 0 where
  pub more : HasMore before marks
  pub same : (j : ℕ) → j < k → is_marked marks (first + j) ≡ false → input_page new j ≡ input_page old j

abbrev pub invariant-loop-k : goal.invariant-loop-k
invariant-loop-k l = IsMarkedSoFar l.first l.k l.old l.new l.fn.marks l.marks
