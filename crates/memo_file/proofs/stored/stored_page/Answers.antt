-- Answers to the goals that the check of `stored_page` leaves open.
use Rattle.std.proofs.Common.{refl}
use Rattle.std.proofs.lemmas.Result.{err_from_is_err_and}
use Rattle.memo_spec.specs.Reading.{stored_page_at}
use Rattle.memo_file.proofs.Loops.{part_fails}
use Rattle.memo_file.proofs.stored.stored_page.Goals as goal

pub returns-in_err-slot-clause-given : goal.returns-in_err-slot-clause-given
unfolding stored_page_at
returns-in_err-slot-clause-given c =
    let p = err_from_is_err_and c.from_residual.result c.from_residual.ensures.1 in
    rw (p.1, p.2) (part_fails c.in_err-slot.field-0.0 _ _ c.in_err-slot.ensures.given)

pub returns-in_err-marks-clause-given : goal.returns-in_err-marks-clause-given
unfolding stored_page_at
returns-in_err-marks-clause-given c =
    let p = err_from_is_err_and c.from_residual-in_err-marks.result c.from_residual-in_err-marks.ensures.1 in
    rw (p.1, p.2, c.in_ok-slot.ensures.given) (part_fails c.in_err-marks.field-0.0 _ _ c.in_err-marks.ensures.given)

pub returns-in_err-bytes-clause-given : goal.returns-in_err-bytes-clause-given
unfolding stored_page_at
returns-in_err-bytes-clause-given c =
    let p = err_from_is_err_and c.from_residual-in_err-bytes.result c.from_residual-in_err-bytes.ensures.1 in
    rw (p.1, p.2, c.in_ok-slot.ensures.given, c.in_ok-marks.ensures.given, ← c.count_marks.ensures)
    (part_fails c.in_err-bytes.field-0.0 _ _ c.in_err-bytes.ensures.given)

pub returns-clause-given : goal.returns-clause-given
unfolding stored_page_at
returns-clause-given c =
    rw (c.in_ok-new.ensures, c.fill.ensures.mask, c.fill.ensures.bytes) (rw (
      c.in_ok-slot.ensures.given,
      c.in_ok-marks.ensures.given,
      ← c.count_marks.ensures,
      c.in_ok-bytes.ensures.given,
    ) refl)
