-- The page is merged at the places of the words so far. Once a word was read, there are 4,096 places.
use Rattle.std.proofs.Common.{◌≡◌, ◌<◌, ◌*◌, length, take}
use Rattle.thunk_spec.proofs.Merging.{merged}
use Rattle.page_store.proofs.mask.Mask.merge.Given as goal

abbrev pub invariant-loop-number : goal.invariant-loop-number
invariant-loop-number l = record {
  whole : 0 < l.number → length l.self ≡ 4096;
  so_far : l.page ≡ merged l.fn.page l.written (take (64 * l.number) l.self);
}
