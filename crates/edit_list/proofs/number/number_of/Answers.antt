-- Answers to the goals that the check of `number_of` leaves open.
use Rattle.std.proofs.Common.{◌≡◌, ℕ, List, true, false, subst, sym, ◌∙◌}
use Rattle.edit_list.specs.Numerals.{is_numeral}
use Rattle.edit_list.proofs.Numerals.{numeral_is, is_numeral-decimal}
use Rattle.edit_list.proofs.number.number_of.Goals as goal

pub returns-then-is_numeral : goal.returns-then-is_numeral
returns-then-is_numeral c =
    let is = numeral_is c.args.text.now (sym c.is_numeral.ensures ∙ c.if-is_numeral.true) in
    rw c.value_of.ensures is

pub returns-else-is_numeral : goal.returns-else-is_numeral
returns-else-is_numeral c = λ n small is.
    let yes : is_numeral c.args.text.now ≡ true =
    subst (λ (t : List ℕ). is_numeral t ≡ true) (sym is) (is_numeral-decimal n small) in
    let no : is_numeral c.args.text.now ≡ false = sym c.is_numeral.ensures ∙ c.if-is_numeral.false in
    cc
