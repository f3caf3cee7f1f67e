-- What was written, and the encoding of the remaining marks. Once a word was read, there are 4,096 places.
use Rattle.std.proofs.Common.{◌≡◌, ◌<◌, ◌*◌, ◌++◌, drop, length}
use Rattle.memo_spec.specs.Encoding.{mask}
use Rattle.memo_file.proofs.writing.stored.write_mask.Given as goal

abbrev pub invariant-loop-number : goal.invariant-loop-number
invariant-loop-number l = record {
  whole : 0 < l.number → length l.mask ≡ 4096;
  so_far : l.out.items ++ mask (drop (64 * l.number) l.mask) ≡ l.fn.out.items ++ mask l.mask;
}
