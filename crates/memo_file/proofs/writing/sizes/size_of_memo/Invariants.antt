-- The size so far, and that of the remaining records.
use Rattle.std.proofs.Common.{◌≡◌, ◌+◌, ◌*◌, ◌^◌, ◌≤◌, drop}
use Rattle.std.specs.Prelude.{sum_by}
use Rattle.memo_file.specs.WritingSizes.{record_size, memo_size}
use Rattle.memo_file.proofs.writing.sizes.size_of_memo.Given as goal

abbrev pub invariant-loop-place : goal.invariant-loop-place
invariant-loop-place l = record {
  so_far : l.size + sum_by record_size (drop l.place l.history.records) ≡ memo_size l.history l.fn.pool;
  few : l.size ≤ 2 ^ 45 + 2 ^ 29 * l.place;
}
