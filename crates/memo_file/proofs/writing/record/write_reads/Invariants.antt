-- What was written, and the encoding of the remaining read pages.
use Rattle.std.proofs.Common.{◌≡◌, ◌++◌, drop}
use Rattle.std.specs.List.{flat_map}
use Rattle.memo_spec.specs.Encoding.{read_page}
use Rattle.memo_file.specs.WritingPool.{pages_lent}
use Rattle.memo_file.proofs.writing.record.write_reads.Given as goal

abbrev pub invariant-loop-k : goal.invariant-loop-k
invariant-loop-k l = l.out.items ++ flat_map (read_page l.slots (pages_lent l.pool.pages.items)) (drop l.k l.reads)
    ≡ l.fn.out.items ++ flat_map (read_page l.slots (pages_lent l.pool.pages.items)) l.reads
