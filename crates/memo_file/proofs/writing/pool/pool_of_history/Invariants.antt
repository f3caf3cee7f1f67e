-- The remaining records lead from the pool so far to the pool of all, and to the places of all.
use Rattle.std.proofs.Common.{◌≡◌, ◌+◌, ◌<◌, ◌^◌, ◌++◌, [], length, drop}
use Rattle.std.specs.List.{fold}
use Rattle.memo_spec.specs.Encoding.{with_page, pages_read, pool_of}
use Rattle.memo_file.specs.WritingPool.{pages_lent, places_from, IsIndexed}
use Rattle.memo_file.proofs.writing.pool.pool_of_history.Given as goal

abbrev pub invariant-loop-place : goal.invariant-loop-place
invariant-loop-place l = record {
  indexed : IsIndexed l.known.indices (pages_lent l.known.pool.items);
  pool : fold with_page (pages_lent l.known.pool.items) (pages_read (drop l.place l.history.records)) ≡ pool_of
      l.history;
  places : l.places.items ++ places_from (pages_lent l.known.pool.items) (pages_read (drop l.place l.history.records))
      ≡ places_from [] (pages_read l.history.records);
  few : length l.known.pool.items + length (pages_read (drop l.place l.history.records)) < 2 ^ 32;
}
