-- The first rows remain, and have enough races.
use Rattle.std.proofs.Common.{◌≡◌, ◌≤◌, ◌⊎◌, length, take}
use Rattle.memo_reports.specs.Rows.{IsCounted}
use Rattle.memo_reports.proofs.races.rows.FirstRaces.trim.Given as goal

abbrev pub invariant-loop-row : goal.invariant-loop-row
invariant-loop-row l = record {
  rows : l.self.rows.items ≡ take (length l.self.rows.items) l.fn.self.rows.items;
  counted : IsCounted l.self;
  enough : (l.self.rows.items ≡ l.fn.self.rows.items) ⊎ (l.fn.self.most ≤ l.self.many);
  most : l.self.most ≡ l.fn.self.most;
}

abbrev pub decreases-loop-row : goal.decreases-loop-row
decreases-loop-row l = length l.self.rows.items
