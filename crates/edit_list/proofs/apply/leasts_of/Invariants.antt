-- The invariant of the loop of `leasts_of`.
use Rattle.std.proofs.Common.{◌≡◌, ◌≤◌, drop, map, length}
use Rattle.edit_list.specs.Said.{line_said}
use Rattle.edit_list.specs.Lengths.{least, leasts}
use Rattle.edit_list.proofs.apply.leasts_of.Given as goal

abbrev pub invariant-loop-place : goal.invariant-loop-place
invariant-loop-place l = record {
  within : l.place ≤ length l.lines;
  size : length l.lengths.items ≡ length l.lines;
  least : l.least ≡ least (map line_said (drop l.place l.lines)) l.most;
  lengths : drop l.place l.lengths.items ≡ leasts (map line_said (drop l.place l.lines)) l.most;
}

abbrev pub decreases-loop-place : goal.decreases-loop-place
decreases-loop-place l = l.place
