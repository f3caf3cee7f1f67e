-- The invariant of the loop of `go_on`.
use Rattle.std.proofs.Common.{◌≡◌, ◌≤◌}
use Rattle.round_report.specs.Storing.{last_store}
use Rattle.ith_commands.proofs.reasons.storing.go_on.Given as goal

-- no entry from the count on to here stored the byte
abbrev pub invariant-loop-left : goal.invariant-loop-left
invariant-loop-left l = record {
  few : l.left ≤ l.fn.count;
  more : l.search.count ≤ l.left;
  none : last_store l.fn.round.records l.fn.count l.search.slot l.search.place
      ≡ last_store l.fn.round.records l.left l.search.slot l.search.place;
}

abbrev pub decreases-loop-left : goal.decreases-loop-left
decreases-loop-left l = l.left
