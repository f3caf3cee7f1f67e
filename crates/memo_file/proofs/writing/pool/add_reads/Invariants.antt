-- The remaining read pages lead from the pool so far to the pool of all, and to the places of all.
use Rattle.std.proofs.Common.{◌≡◌, ◌+◌, ◌≤◌, ◌++◌, length, drop}
use Rattle.std.specs.List.{fold}
use Rattle.memo_spec.specs.Encoding.{with_page}
use Rattle.memo_file.specs.WritingPool.{pages_lent, bytes_read, places_from, IsIndexed}
use Rattle.memo_file.proofs.writing.pool.add_reads.Given as goal

abbrev pub invariant-loop-read : goal.invariant-loop-read
invariant-loop-read l = record {
  indexed : IsIndexed l.known.indices (pages_lent l.known.pool.items);
  pool : fold with_page (pages_lent l.known.pool.items) (bytes_read (drop l.read-index l.reads))
      ≡ fold with_page (pages_lent l.fn.known.pool.items) (bytes_read l.reads);
  places : l.places.items ++ places_from (pages_lent l.known.pool.items) (bytes_read (drop l.read-index l.reads))
      ≡ l.fn.places.items ++ places_from (pages_lent l.fn.known.pool.items) (bytes_read l.reads);
  few : length l.known.pool.items ≤ length l.fn.known.pool.items + l.read-index;
}
