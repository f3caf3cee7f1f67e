-- What was written, the encoding of the remaining records, and the places that they need.
use Rattle.std.proofs.Common.{◌≡◌, ◌≤◌, ◌++◌, drop, map, length}
use Rattle.std.specs.List.{flat_map}
use Rattle.memo_spec.specs.Encoding.{record_bytes, pool_of, index_in, pages_read}
use Rattle.memo_file.specs.WritingPool.{pages_lent}
use Rattle.memo_file.proofs.writing.body.write_records.Given as goal

abbrev pub invariant-loop-place : goal.invariant-loop-place
invariant-loop-place l = record {
  so_far : l.out.items ++ flat_map (record_bytes l.slots (pages_lent l.pool.pages.items))
      (drop l.place l.history.records)
      ≡ l.fn.out.items ++ flat_map (record_bytes l.slots (pages_lent l.pool.pages.items)) l.history.records;
  places : drop l.start l.pool.places.items ≡ map (index_in (pool_of l.history))
      (pages_read (drop l.place l.history.records));
  within : l.start ≤ length l.pool.places.items;
}
