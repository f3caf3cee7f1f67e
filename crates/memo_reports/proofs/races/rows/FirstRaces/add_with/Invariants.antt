-- The races with the first accesses are in their rows.
use Rattle.std.proofs.Common.{◌≡◌, ◌<◌, ◌+◌, ℕ, ◌++◌, [], length, take, get_or}
use Rattle.memo_reports.specs.Rows.{IsCounted, races_in}
use Rattle.memo_reports.proofs.races.rows.FirstRaces.add_with.Given as goal

abbrev pub invariant-loop-access : goal.invariant-loop-access
invariant-loop-access l = record {
  rows : (i : ℕ) → i < length l.fn.self.rows.items
      → get_or l.self.rows.items i []
      ≡ get_or l.fn.self.rows.items i [] ++ races_in i l.later l.touch (take l.access-index l.accesses);
  long : length l.self.rows.items ≡ length l.fn.self.rows.items;
  counted : IsCounted l.self;
  many : l.self.many ≡ l.fn.self.many + l.access-index;
  most : l.self.most ≡ l.fn.self.most;
}
