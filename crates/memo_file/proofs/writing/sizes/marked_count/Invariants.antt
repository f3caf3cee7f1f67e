-- The marks so far, and the remaining ones. Once a word was read, there are 4,096 places.
use Rattle.std.proofs.Common.{◌≡◌, ◌<◌, ◌+◌, ◌*◌, ◌≤◌, drop, length}
use Rattle.memo_file.specs.WritingMasks.{marks_in}
use Rattle.memo_file.proofs.writing.sizes.marked_count.Given as goal

abbrev pub invariant-loop-number : goal.invariant-loop-number
invariant-loop-number l = record {
  whole : 0 < l.number → length l.mask ≡ 4096;
  so_far : l.count + marks_in (drop (64 * l.number) l.mask) ≡ marks_in l.mask;
  few : l.count ≤ 64 * l.number;
}
