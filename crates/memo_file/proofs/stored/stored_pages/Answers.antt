-- Answers to the goals that the check of `stored_pages` leaves open.
use Rattle.std.proofs.Common.{◌≡◌, arith, suc, ◌+◌}
use Rattle.std.proofs.lemmas.Result.{err_from_is_err_and}
use Rattle.memo_spec.specs.Reading.{stored_page_at}
use Rattle.memo_file.proofs.Loops.{goes_on, ends, is_done, part_fails, kept_read}
use Rattle.memo_file.proofs.Ascends.{stored_ascend}
use Rattle.memo_file.proofs.stored.stored_pages.Goals as goal

pub returns-in_err-page-clause-given : goal.returns-in_err-page-clause-given
returns-in_err-page-clause-given c =
    let p = err_from_is_err_and c.from_residual.result c.from_residual.ensures.1 in
    let e = c.in_err-page.field-0.0 in
    rw (p.1, p.2) (part_fails e _ _ (ends e (stored_page_at c.args.slots.now) c.loop.pages.items c.args.count
    c.loop.counter c.loop.low c.loop.cursor _ c.loop-test.true c.in_err-page.ensures.given c.loop.invariant))

pub loop-preserved : goal.loop-preserved
loop-preserved c =
    let low : c.slot-low.result + 1 ≡ suc c.in_ok-page.page.slot = omega (arith, c.slot-low.ensures) in
    rw (c.in_ok-push.ensures.items, low) (goes_on (stored_page_at c.args.slots.now) c.loop.pages.items c.args.count
    c.loop.counter c.loop.low c.loop.cursor (c.in_ok-page.page, suc c.in_ok-page.page.slot)
    c.stored_page.new.cursor _ c.loop-test.true c.in_ok-page.ensures.given c.loop.invariant)

pub returns-clause-ascend : goal.returns-clause-ascend
returns-clause-ascend c = stored_ascend c.args.slots.now c.args.count 0 c.args.cursor.now c.loop.pages.items
    c.loop.low c.loop.cursor
    (is_done (stored_page_at c.args.slots.now) c.loop.pages.items c.args.count c.loop.counter c.loop.low c.loop.cursor
    _ c.loop-test.false c.loop.invariant)

pub returns-clause-given : goal.returns-clause-given
returns-clause-given c = kept_read _ _ _ _ (is_done (stored_page_at c.args.slots.now) c.loop.pages.items c.args.count
    c.loop.counter c.loop.low c.loop.cursor _ c.loop-test.false c.loop.invariant)
