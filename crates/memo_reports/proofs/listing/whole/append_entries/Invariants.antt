-- What is there now, with the lines of the remaining records, is what was there, with all lines.
use Rattle.std.proofs.Common.{◌≡◌, ◌++◌, drop}
use Rattle.memo_reports.specs.Listing.{entry_lines}
use Rattle.memo_reports.proofs.listing.whole.append_entries.Given as goal

abbrev pub invariant-loop-place : goal.invariant-loop-place
invariant-loop-place l =
    l.fn.into.items ++ entry_lines l.addresses 0 l.records
    ≡ l.into.items ++ entry_lines l.addresses l.place (drop l.place l.records)
