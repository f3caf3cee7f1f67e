-- The invariants of the loops of `has_pages`.
use Rattle.std.proofs.Common.{◌≡◌, ◌+◌, drop}
use Rattle.thunk_spec.specs.Reads.{has}
use Rattle.thunk_record.specs.Comparing.{compared_in}
use Rattle.thunk_record.proofs.fit.has_pages.Given as goal

-- what is found of the remaining pages, and how many of them are compared
abbrev pub invariant-loop-read : goal.invariant-loop-read
invariant-loop-read l = record {
  has : has l.table (drop l.read-index l.reads) ≡ has l.table l.reads;
  counted : l.compared + compared_in l.table (drop l.read-index l.reads)
      ≡ l.fn.compared + compared_in l.table l.reads;
}
