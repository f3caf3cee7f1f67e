-- Answers to the goals that the check of `read_page` leaves open.
use Rattle.std.proofs.Common.{◌≡◌, ◌<◌, ◌≤◌, ◌⊎◌, [], map, length, refl, inl, inr, sym, ◌∙◌, arith, eq-eqb}
use Rattle.std.specs.Prelude.{slice_index_or}
use Rattle.std.specs.Arc.{arc_value}
use Rattle.std.proofs.lemmas.Bool.{ne_eqb}
use Rattle.std.proofs.lemmas.List.{get_or-map, length-map}
use Rattle.std.proofs.lemmas.Result.{err_from_is_err_and}
use Rattle.memo_spec.specs.Reading.{read_page_at, used_after}
use Rattle.memo_file.proofs.Loops.{part_fails}
use Rattle.memo_file.proofs.Slots.{page_read, page_refused}
use Rattle.memo_file.proofs.pages.read_page.Goals as goal
use Rattle.memo_file.proofs.pages.read_page.Goals.{then-index-used, else-index-used, then-used-index-via-then-used-index, then-used-index-via-else-used-index+then-sources-index}

pub returns-in_err-slot-clause-given : goal.returns-in_err-slot-clause-given
unfolding read_page_at
returns-in_err-slot-clause-given c =
    let p = err_from_is_err_and c.from_residual.result c.from_residual.ensures.1 in
    rw (p.1, p.2) (part_fails c.in_err-slot.field-0.0 _ _ c.in_err-slot.ensures.given)

pub returns-in_err-index-clause-given : goal.returns-in_err-index-clause-given
unfolding read_page_at
returns-in_err-index-clause-given c =
    let p = err_from_is_err_and c.from_residual-in_err-index.result c.from_residual-in_err-index.ensures.1 in
    rw (p.1, p.2, c.in_ok-slot.ensures.given) (part_fails c.in_err-index.field-0.0 _ _
    (part_fails c.in_err-index.field-0.0 _ _ c.in_err-index.ensures.given))

pub returns-in_err-page-clause-given : goal.returns-in_err-page-clause-given
returns-in_err-page-clause-given c =
    let p = err_from_is_err_and c.from_residual-in_err-page.result c.from_residual-in_err-page.ensures.1 in
    rw (p.1, p.2) tt

pub returns-then-used-index-clause-given : goal.returns-then-used-index-clause-given
returns-then-used-index-clause-given c =
    let pool = map arc_value c.args.sources.now.pool.now in
    let index = c.in_ok-index.field-0 in
    let same = length-map c.args.sources.now.pool.now arc_value in
    let outside : (c.args.used < index) ⊎ (length pool ≤ index) =
    elim c.then-used-index.branch [
      | then-used-index-via-then-used-index w ↦ inl w.if-used-index.true
      | then-used-index-via-else-used-index+then-sources-index w ↦ inr (omega (arith, same, w.if-sources-index.true))
    ] in
    rw c.position-at.ensures (page_refused c.args.sources.now.slots.now pool
    (record { low = c.args.low; used = c.args.used }) c.in_ok-slot.slot index c.args.cursor.now c.slot.new.cursor
    c.word.new.cursor c.in_ok-slot.ensures.given c.in_ok-index.ensures.given outside)

pub returns-clause-given : goal.returns-clause-given
returns-clause-given c =
    let pool = map arc_value c.args.sources.now.pool.now in
    let index = c.in_ok-index.field-0 in
    let bytes : arc_value c.in_ok-page.page ≡ slice_index_or pool index [] =
    c.in_ok-page.ensures ∙ sym (get_or-map arc_value c.args.sources.now.pool.now index _ [] c.if-sources-index.false) in
    let used : c.if-index-used.used ≡ used_after c.args.used index =
    elim c.if-index-used.branch [
      | then-index-used w ↦ rw (w.used-is, eq-eqb _ _ w.if-index-used.true) refl
      | else-index-used w ↦ rw (w.used-is, ne_eqb _ _ w.if-index-used.false) refl
    ] in
    rw (c.new.ensures, bytes, used) (page_read c.args.sources.now.slots.now pool
    (record { low = c.args.low; used = c.args.used }) c.in_ok-slot.slot index c.args.cursor.now c.slot.new.cursor
    c.word.new.cursor c.in_ok-slot.ensures.given c.in_ok-index.ensures.given c.if-used-index.false
    (omega (arith, length-map c.args.sources.now.pool.now arc_value)))
