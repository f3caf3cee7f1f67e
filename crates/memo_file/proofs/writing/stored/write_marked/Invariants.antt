-- What was written, and the remaining marked bytes. Once a word was read, there are 4,096 places.
use Rattle.std.proofs.Common.{◌≡◌, ◌<◌, ◌*◌, ◌++◌, drop, length}
use Rattle.thunk_spec.specs.Delta.{chosen}
use Rattle.memo_file.proofs.writing.stored.write_marked.Given as goal

abbrev pub invariant-loop-number : goal.invariant-loop-number
invariant-loop-number l = record {
  whole : 0 < l.number → length l.mask ≡ 4096;
  so_far : l.out.items ++ chosen (drop (64 * l.number) l.mask) (drop (64 * l.number) l.page)
      ≡ l.fn.out.items ++ chosen l.mask l.page;
}
