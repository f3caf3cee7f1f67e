-- Answers to the goals that the check of `set_of` leaves open.
use Rattle.std.proofs.Common.{ℕ, List, sym, ◌∙◌, subst}
use Rattle.std.specs.Prelude.{decimal}
use Rattle.std.proofs.lemmas.Result.{err_from_is_err_and}
use Rattle.edit_spec.specs.Grammar.{EncodeBytes}
use Rattle.edit_list.proofs.Words.{set_line, around_first_space, no_space-decimal, space_is_there, no_set_without_bytes}
use Rattle.edit_list.proofs.line.set_of.Goals as goal

pub returns-in_default-clause-refused : goal.returns-in_default-clause-refused
returns-in_default-clause-refused c =
    λ is. let s = set_line c.args.rest.now is in
    space_is_there c.args.rest.now (decimal s.0) s.2 c.in_default.ensures s.6

pub returns-in_default-number_of-clause-refused : goal.returns-in_default-number_of-clause-refused
returns-in_default-number_of-clause-refused c = λ is.
    let s = set_line c.args.rest.now is in
    let same =
    around_first_space c.in-Some.number.now (decimal s.0) c.in-Some.digits.now s.2 c.in-Some.ensures.0
    (no_space-decimal s.0 s.3)
    (sym c.in-Some.ensures.1 ∙ s.6) in
    c.in_default-number_of.ensures s.0 s.3 same.0

pub returns-in_err-bytes-clause-refused : goal.returns-in_err-bytes-clause-refused
returns-in_err-bytes-clause-refused c =
    let p = err_from_is_err_and c.from_residual.result c.from_residual.ensures.1 in
    rw (p.1, p.2)
    (no_set_without_bytes c.args.rest.now c.in-Some.digits.now c.in_err-bytes.field-0.0 c.in_err-bytes.ensures.refused
    (λ is.
    let s = set_line c.args.rest.now is in
    let same =
    around_first_space c.in-Some.number.now (decimal s.0) c.in-Some.digits.now s.2 c.in-Some.ensures.0
    (no_space-decimal s.0 s.3)
    (sym c.in-Some.ensures.1 ∙ s.6) in
    (s.1, s.4, subst (λ (ds : List ℕ). EncodeBytes ds s.1) (sym same.1) s.5)))
