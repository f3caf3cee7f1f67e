-- Answers to the goals that the check of `Edits::apply` leaves open.
use Rattle.std.proofs.Common.{◌≡◌, ℕ, List, Ok, map, length, ap, sym, subst, ◌∙◌, arith}
use Rattle.edit_spec.specs.Edit.{LineEdit}
use Rattle.edit_spec.specs.Editing.{edited}
use Rattle.edit_list.specs.Said.{line_said}
use Rattle.edit_list.specs.Refusals.{WhyNoLength}
use Rattle.edit_list.specs.Showing.{Shows}
use Rattle.edit_list.proofs.Lengths.{not_applied}
use Rattle.edit_list.proofs.Showing.{shows-resized, written-over}
use Rattle.edit_list.proofs.edits.Edits.apply.Goals as goal

pub returns-in-Err-clause-refused : goal.returns-in-Err-clause-refused
returns-in-Err-clause-refused c =
    let edits : map line_said c.deref.result.now ≡ c.args.self.now =
    ap (map line_said) c.deref.ensures.value ∙ c.self.view_is in
    let count : c.len-before.result ≡ length c.args.input.now.items = omega arith in
    not_applied c.args.self.now c.args.input.now.items c.in-Err.error
    (subst (λ (n : ℕ). WhyNoLength c.args.self.now n c.in-Err.error) count
    (subst (λ (es : List LineEdit). WhyNoLength es c.len-before.result c.in-Err.error) edits
    c.in-Err.ensures.refused))

pub returns-clause-done : goal.returns-clause-done
returns-clause-done c =
    let input = c.args.input.now.items in
    let written = c.write_edits.new.buffer in
    let room = c.as_mut_slice.ensures.value in
    let shows =
    shows-resized c.resize.new.self.items input c.in-Ok.last c.args.input.now.len c.in-Ok-resize.ensures.items
    c.args.input.now.ok.0 in
    let same = c.write_edits.auto.buffer ∙ ap (λ (bytes : List ℕ). length bytes) room in
    ap (λ (edits : List LineEdit). edited edits input) (sym (ap (map line_said) c.deref-3.ensures.value ∙ c.self.view_is))
    ∙ c.write_edits.ensures input (sym (c.len-before.ensures ∙ c.args.input.now.ok.0))
    (subst (λ (bytes : List ℕ). Shows bytes input (length bytes)) (sym room) shows)
    ∙ ap (λ (bytes : List ℕ). Ok bytes) (sym (written-over written c.resize.new.self.items c.resize.new.self.len same c.resize.new.self.ok.0))
