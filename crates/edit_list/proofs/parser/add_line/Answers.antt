-- Answers to the goals that the check of `add_line` leaves open.
use Rattle.std.proofs.Common.{◌≡◌, ◌==◌, ap, sym, false, ◌∙◌, arith, map, length}
use Rattle.std.proofs.lemmas.Bool.Decides.{nat_tests}
use Rattle.std.proofs.lemmas.List.{map_push}
use Rattle.edit_list.specs.Said.{edit_said, line_said}
use Rattle.edit_list.proofs.Parsing.{edit_added}
use Rattle.edit_list.proofs.parser.add_line.Goals as goal

pub returns-clause-added : goal.returns-clause-added
returns-clause-added c =
    let not_none : (length c.args.text.now == 0) ≡ false = sym c.is_empty.ensures ∙ c.if-is_empty.false in
    edit_added c.args.number c.args.text.now (edit_said c.in-Ok.edit) (map line_said c.args.lines.now.items)
    (map line_said c.push.new.self.items)
    (grind (arith, nat_tests, not_none)) c.in-Ok.ensures.encoded
    (ap (map line_said) c.in_ok-push.ensures.items
    ∙ map_push line_said c.args.lines.now.items (record { line = c.args.number; edit = c.in-Ok.edit }))
