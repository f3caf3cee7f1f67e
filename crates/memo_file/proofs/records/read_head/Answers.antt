-- Answers to the goals that the check of `read_head` leaves open: the fields before the one that fails were read.
use Rattle.std.proofs.Common.{refl}
use Rattle.std.proofs.lemmas.Result.{err_from_is_err_and}
use Rattle.memo_spec.specs.Reading.{record_at}
use Rattle.memo_file.specs.Heads.{behind_head}
use Rattle.memo_file.proofs.Loops.{part_fails}
use Rattle.memo_file.proofs.records.read_head.Goals as goal

pub returns-in_err-thread-clause-refused : goal.returns-in_err-thread-clause-refused
unfolding record_at
returns-in_err-thread-clause-refused c = λ pages pool s.
    let p = err_from_is_err_and c.from_residual.result c.from_residual.ensures.1 in
    rw (p.1, p.2)
    (part_fails c.in_err-thread.field-0.0 _ _ c.in_err-thread.ensures.given)

pub returns-in_err-number-clause-refused : goal.returns-in_err-number-clause-refused
unfolding record_at
returns-in_err-number-clause-refused c = λ pages pool s.
    let p = err_from_is_err_and c.from_residual-in_err-number.result c.from_residual-in_err-number.ensures.1 in
    rw (p.1, p.2, c.in_ok-thread.ensures.given)
    (part_fails c.in_err-number.field-0.0 _ _ c.in_err-number.ensures.given)

pub returns-in_err-count-clause-refused : goal.returns-in_err-count-clause-refused
unfolding record_at
returns-in_err-count-clause-refused c = λ pages pool s.
    let p = err_from_is_err_and c.from_residual-in_err-count.result c.from_residual-in_err-count.ensures.1 in
    rw (p.1, p.2, c.in_ok-thread.ensures.given, c.in_ok-number.ensures.given)
    (part_fails c.in_err-count.field-0.0 _ _ c.in_err-count.ensures.given)

pub returns-in_err-start-clause-refused : goal.returns-in_err-start-clause-refused
unfolding record_at
returns-in_err-start-clause-refused c = λ pages pool s.
    let p = err_from_is_err_and c.from_residual-in_err-start.result c.from_residual-in_err-start.ensures.1 in
    rw (p.1, p.2, c.in_ok-thread.ensures.given, c.in_ok-number.ensures.given, c.in_ok-count.ensures.given)
    (part_fails c.in_err-start.field-0.0 _ _ c.in_err-start.ensures.given)

pub returns-in_err-finish-clause-refused : goal.returns-in_err-finish-clause-refused
unfolding record_at
returns-in_err-finish-clause-refused c = λ pages pool s.
    let p = err_from_is_err_and c.from_residual-in_err-finish.result c.from_residual-in_err-finish.ensures.1 in
    rw (p.1, p.2, c.in_ok-thread.ensures.given, c.in_ok-number.ensures.given, c.in_ok-count.ensures.given, c.in_ok-start.ensures.given)
    (part_fails c.in_err-finish.field-0.0 _ _ c.in_err-finish.ensures.given)

pub returns-clause-behind : goal.returns-clause-behind
unfolding record_at behind_head
returns-clause-behind c = λ pages pool s.
    rw (
      c.end.ensures,
      c.in_ok-thread.ensures.given,
      c.in_ok-number.ensures.given,
      c.in_ok-count.ensures.given,
      c.in_ok-start.ensures.given,
      c.in_ok-finish.ensures.given,
    ) refl
