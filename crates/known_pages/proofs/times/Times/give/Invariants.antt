-- The invariant of the loop of `Times::give`.
use Rattle.std.proofs.Common.{◌≡◌, drop}
use Rattle.known_pages.specs.Versions.{with_each}
use Rattle.known_pages.proofs.times.Times.give.Given as goal

-- the remaining threads are still to be given a view
abbrev pub invariant-loop-t : goal.invariant-loop-t
invariant-loop-t l = record {
  viewed : with_each l.self.viewed (drop l.t-index l.threads) l.now ≡ with_each l.initial.self.viewed l.threads l.now;
  written : l.self.written.items ≡ l.initial.self.written.items;
}
