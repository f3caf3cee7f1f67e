-- The invariant of the loop of `last_length`.
use Rattle.std.proofs.Common.{◌≡◌, ℕ, drop, map}
use Rattle.edit_list.specs.Said.{line_said}
use Rattle.edit_list.specs.Lengths.{ComesTo, line_out_of_range}
use Rattle.edit_list.proofs.apply.last_length.Given as goal

abbrev pub invariant-loop-line : goal.invariant-loop-line
invariant-loop-line l = record {
  last :
      (n : ℕ) → ComesTo (map line_said (drop l.line-index l.lines)) l.current n
      → ComesTo (map line_said l.lines) l.input_length n;
  line :
      line_out_of_range (map line_said (drop l.line-index l.lines)) l.current
      ≡ line_out_of_range (map line_said l.lines) l.input_length;
}
