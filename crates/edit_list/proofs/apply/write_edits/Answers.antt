-- Answers to the goals that the check of `write_edits` leaves open.
use Rattle.std.proofs.Common.{◌≡◌, ◌+◌, List, [], ◌∷◌, length, drop, map, min, slice_index_or, sym, ap, subst, ◌∙◌, arith}
use Rattle.std.proofs.lemmas.List.{drop_more, drop_all, length-map}
use Rattle.edit_spec.specs.Editing.{edited}
use Rattle.edit_list.specs.declared.edits.LineEdit.{LineEdit}
use Rattle.edit_list.specs.Said.{line_said}
use Rattle.edit_list.specs.Lengths.{ComesTo, least, leasts}
use Rattle.edit_list.specs.Showing.{Shows}
use Rattle.edit_list.proofs.Lengths.{least-most, length-leasts}
use Rattle.edit_list.proofs.Showing.{shows-cleared}
use Rattle.edit_list.proofs.Going.{kept-is, least-at, one-edit, all-edits, IsAt}
use Rattle.edit_list.proofs.apply.write_edits.Goals as goal

pub clear_from-requires : goal.clear_from-requires
clear_from-requires c =
    let kept =
    kept-is c.args.lengths.now (map line_said c.args.lines.now) (length c.args.buffer.now) c.first_or-kept.result
    c.requires.lengths c.first_or-kept.ensures in
    let under = least-most (map line_said c.args.lines.now) (length c.args.buffer.now) in
    omega (arith, kept, under)

pub bounds-lengths-place : goal.bounds-lengths-place
bounds-lengths-place c =
    let count : length c.args.lengths.now ≡ length c.args.lines.now =
    ap length c.requires.lengths ∙ length-leasts (map line_said c.args.lines.now) (length c.args.buffer.now)
    ∙ length-map c.args.lines.now line_said in
    omega (arith, count, c.loop-place-test.true)

pub write_edit-current-requires : goal.write_edit-current-requires
write_edit-current-requires c =
    let here =
    least-at c.args.lengths.now c.args.lines.now (length c.args.buffer.now) c.loop-place.place c.requires.lengths
    c.loop-place-test.true in
    let under = least-most (map line_said (drop c.loop-place.place c.args.lines.now)) (length c.args.buffer.now) in
    omega (arith, here, under, c.loop-place.auto.buffer)

pub loop-place-preserved : goal.loop-place-preserved
loop-place-preserved c =
    let rest = drop (c.loop-place.place + 1) c.args.lines.now in
    let most = length c.clear_from.new.buffer in
    let here : drop c.loop-place.place c.args.lines.now ≡ c.index-lines-place.result ∷ rest =
    drop_more c.args.lines.now c.loop-place.place c.index-lines-place.result c.loop-place-test.true
    ∙ ap (λ (x : LineEdit). x ∷ rest) (sym c.index-lines-place.is) in
    let comes =
    subst (λ (xs : List LineEdit). ComesTo (map line_said xs) c.loop-place.current most) here
    c.loop-place.invariant.last in
    let lengths : c.args.lengths.now ≡ leasts (map line_said c.args.lines.now) most =
    c.requires.lengths ∙ ap (leasts (map line_said c.args.lines.now)) (sym c.clear_from.auto.buffer) in
    let at : slice_index_or c.args.lengths.now c.loop-place.place 0 ≡ least
    (map line_said (c.index-lines-place.result ∷ rest)) most =
    least-at c.args.lengths.now c.args.lines.now most c.loop-place.place lengths c.loop-place-test.true
    ∙ ap (λ (xs : List LineEdit). least (map line_said xs) most) here in
    record {
      last = rw c.write_edit-current.ensures.length comes.1;
      done = λ input size shows.
          one-edit (line_said c.index-lines-place.result) (map line_said rest) c.loop-place.buffer
          c.write_edit-current.new.buffer c.loop-place.current
          c.write_edit-current.result (slice_index_or c.args.lengths.now c.loop-place.place 0) most
          (edited (map line_said c.args.lines.now) input)
          comes.0 c.write_edit-current.ensures.length at c.write_edit-current.ensures.shown
          (subst (λ (xs : List LineEdit). IsAt (map line_said xs) c.loop-place.buffer c.loop-place.current most
          (edited (map line_said c.args.lines.now) input))
          here (c.loop-place.invariant.done input size shows));
    }

pub returns : goal.returns
returns c = λ input size shows.
    let most = length c.clear_from.new.buffer in
    let kept =
    kept-is c.args.lengths.now (map line_said c.args.lines.now) (length c.args.buffer.now) c.first_or-kept.result
    c.requires.lengths c.first_or-kept.ensures in
    let under = least-most (map line_said c.args.lines.now) (length c.args.buffer.now) in
    let cleared =
    shows-cleared c.args.buffer.now input c.first_or-kept.result (omega (arith, kept, under)) shows in
    let start : Shows c.clear_from.new.buffer input
    (min c.args.input_length (least (map line_said c.args.lines.now) most)) =
    rw (c.clear_from.auto.buffer, ← kept, ← size, c.clear_from.ensures) cleared in
    let none : drop c.loop-place.place c.args.lines.now ≡ [] =
    drop_all c.loop-place.place c.args.lines.now c.loop-place-test.false in
    let comes =
    subst (λ (xs : List LineEdit). ComesTo (map line_said xs) c.loop-place.current most) none
    c.loop-place.invariant.last in
    all-edits c.loop-place.buffer c.loop-place.current most (edited (map line_said c.args.lines.now) input) comes
    c.loop-place.auto.buffer
    (subst (λ (xs : List LineEdit). IsAt (map line_said xs) c.loop-place.buffer c.loop-place.current most
    (edited (map line_said c.args.lines.now) input))
    none (c.loop-place.invariant.done input size start))
