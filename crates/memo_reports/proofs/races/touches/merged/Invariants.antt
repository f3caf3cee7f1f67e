-- The pages so far, with the remaining ones, are all.
use Rattle.std.proofs.Common.{◌≡◌, ◌≤◌, ◌+◌, ◌-◌, ◌++◌, length, drop}
use Rattle.memo_reports.specs.Touches.{touches_in}
use Rattle.memo_reports.proofs.races.touches.merged.Given as goal

abbrev pub invariant-loop-next_read : goal.invariant-loop-next_read
invariant-loop-next_read l = record {
  reads : l.next_read ≤ length l.reads;
  written : l.next_written ≤ length l.written;
  all : l.touches.items ++ touches_in l.pages (drop l.next_read l.reads) (drop l.next_written l.written)
      ≡ touches_in l.pages l.reads l.written;
}

abbrev pub decreases-loop-next_read : goal.decreases-loop-next_read
decreases-loop-next_read l = (length l.reads - l.next_read) + (length l.written - l.next_written)
