-- The invariant of the loop of `write_edits`.
use Rattle.std.proofs.Common.{◌≡◌, ℕ, List, drop, map, min, length}
use Rattle.edit_spec.specs.Editing.{edited}
use Rattle.edit_list.specs.Said.{line_said}
use Rattle.edit_list.specs.Lengths.{ComesTo, least}
use Rattle.edit_list.specs.Showing.{Shows}
use Rattle.edit_list.proofs.Going.{IsAt}
use Rattle.edit_list.proofs.apply.write_edits.Given as goal

abbrev pub invariant-loop-place : goal.invariant-loop-place
invariant-loop-place l = record {
  last : ComesTo (map line_said (drop l.place l.lines)) l.current (length l.initial.buffer);
  done :
      (input : List ℕ) → length input ≡ l.input_length
      → Shows l.initial.buffer input (min l.input_length (least (map line_said l.lines) (length l.initial.buffer)))
      → IsAt (map line_said (drop l.place l.lines)) l.buffer l.current (length l.initial.buffer)
      (edited (map line_said l.lines) input);
}
