-- Places from one up to the next word's aren't marked, and those before have the written bytes then. Once a word was
-- read, there are 4,096 places.
use Rattle.std.proofs.Common.{◌≡◌, ◌<◌, ◌*◌, length}
use Rattle.page_store.proofs.Giving.{IsGiven}
use Rattle.page_store.proofs.mask.Mask.gives_written.Given as goal

abbrev pub invariant-loop-number : goal.invariant-loop-number
invariant-loop-number l = record {
  whole : 0 < l.number → length l.self ≡ 4096;
  given : IsGiven l.self l.page l.written l.from (64 * l.number);
}
