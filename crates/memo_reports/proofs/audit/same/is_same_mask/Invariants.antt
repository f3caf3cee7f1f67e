-- The words so far are the same. Once a word was read, there are 4,096 places.
use Rattle.std.proofs.Common.{ℕ, ◌≡◌, ◌<◌, length}
use Rattle.memo_reports.proofs.Masking.{SameWord}
use Rattle.memo_reports.proofs.audit.same.is_same_mask.Given as goal

abbrev pub invariant-loop-number : goal.invariant-loop-number
invariant-loop-number l = record {
  whole : 0 < l.number → (length l.a ≡ 4096) × (length l.b ≡ 4096);
  same : (k : ℕ) → k < l.number → SameWord l.a l.b k;
}
