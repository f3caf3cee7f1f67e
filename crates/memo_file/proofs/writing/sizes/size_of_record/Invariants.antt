-- The size so far, and that of the remaining stored pages.
use Rattle.std.proofs.Common.{◌≡◌, ◌+◌, ◌*◌, ◌≤◌, drop, length}
use Rattle.std.specs.Prelude.{sum_by}
use Rattle.memo_file.specs.WritingSizes.{stored_size, record_size}
use Rattle.memo_file.proofs.writing.sizes.size_of_record.Given as goal

abbrev pub invariant-loop-stored : goal.invariant-loop-stored
invariant-loop-stored l = record {
  so_far : l.size + sum_by stored_size (drop l.stored-index l.rec.kept.delta) ≡ record_size l.rec;
  few : l.size ≤ 266 + 8 * length l.rec.kept.reads + 4612 * l.stored-index;
}
