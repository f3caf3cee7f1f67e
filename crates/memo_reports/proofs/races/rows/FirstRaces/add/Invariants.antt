-- The races with the first threads' accesses are in their rows.
use Rattle.std.proofs.Common.{◌≡◌, ◌<◌, ◌≤◌, ◌+◌, ℕ, ◌++◌, [], length, take, get_or}
use Rattle.std.specs.List.{filter, flat_map, count_by}
use Rattle.memo_reports.specs.declared.races.past.ThreadPast.{ThreadPast}
use Rattle.memo_reports.specs.Past.{races_with}
use Rattle.memo_reports.specs.Rows.{IsCounted, races_in}
use Rattle.memo_reports.proofs.races.rows.FirstRaces.add.Given as goal

abbrev pub invariant-loop-past : goal.invariant-loop-past
invariant-loop-past l = record {
  rows : (i : ℕ) → i < length l.fn.self.rows.items
      → get_or l.self.rows.items i []
      ≡ get_or l.fn.self.rows.items i []
      ++ races_in i l.later l.touch
      (filter (races_with l.step l.touch.writes) (flat_map (λ (p : ThreadPast). p.all.items) (take l.past-index l.past-items)));
  count : l.count
      ≡ count_by (races_with l.step l.touch.writes) (flat_map (λ (p : ThreadPast). p.all.items) (take l.past-index l.past-items));
  long : length l.self.rows.items ≡ length l.fn.self.rows.items;
  counted : IsCounted l.self;
  many : l.self.many ≤ l.fn.self.many + length (flat_map (λ (p : ThreadPast). p.all.items) (take l.past-index l.past-items));
  more : l.fn.self.many ≤ l.self.many;
  most : l.self.most ≡ l.fn.self.most;
}
