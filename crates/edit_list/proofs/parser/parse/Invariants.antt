-- The invariant of the loop of `parse`.
use Rattle.std.proofs.Common.{◌≤◌, ◌+◌, ◌==◌, map, length}
use Rattle.std.specs.List.{slice_split}
use Rattle.edit_list.specs.Said.{line_said}
use Rattle.edit_list.proofs.Parsing.{Leads}
use Rattle.edit_list.proofs.parser.parse.Given as goal

abbrev pub invariant-loop-text : goal.invariant-loop-text
invariant-loop-text l = record {
  leads : Leads l.fn.bytes l.number (slice_split (λ byte. byte == 10) l.rest) (map line_said l.lines.items);
  count : l.number + length l.rest ≤ length l.fn.bytes + 1;
}

abbrev pub decreases-loop-text : goal.decreases-loop-text
decreases-loop-text l = length l.rest
