-- The invariant of the loop of `Versions::has_reads`.
use Rattle.std.proofs.Common.{◌≡◌, ◌+◌, drop}
use Rattle.thunk_spec.specs.Reads.{has}
use Rattle.known_pages.specs.Versions.{knows_read, unknown_in}
use Rattle.known_pages.proofs.versions.Versions.has_reads.Given as goal

-- the pages so far are in the view, and of the remaining ones those that aren't known are still to be counted
abbrev pub invariant-loop-k : goal.invariant-loop-k
invariant-loop-k l = record {
  has : has l.view (drop l.k l.reads) ≡ has l.view l.reads;
  counted :
      l.compared + unknown_in (knows_read l.self l.place l.t) l.k l.view (drop l.k l.reads)
      ≡ l.fn.compared + unknown_in (knows_read l.self l.place l.t) 0 l.view l.reads;
}
