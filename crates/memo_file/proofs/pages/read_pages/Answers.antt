-- Answers to the goals that the check of `read_pages` leaves open.
use Rattle.std.proofs.Common.{◌≡◌, map, arith, suc, ◌+◌}
use Rattle.std.specs.Arc.{arc_value}
use Rattle.std.proofs.lemmas.Result.{err_from_is_err_and}
use Rattle.memo_spec.specs.Reading.{read_page_at}
use Rattle.memo_file.proofs.Loops.{goes_on, ends, is_done, part_fails, kept_read}
use Rattle.memo_file.proofs.Ascends.{chain_ascends}
use Rattle.memo_file.proofs.pages.read_pages.Goals as goal

pub returns-in_err-page-clause-given : goal.returns-in_err-page-clause-given
returns-in_err-page-clause-given c =
    let p = err_from_is_err_and c.from_residual.result c.from_residual.ensures.1 in
    let e = c.in_err-page.field-0.0 in
    rw (p.1, p.2) (part_fails e _ _ (ends e
    (read_page_at c.args.sources.now.slots.now (map arc_value c.args.sources.now.pool.now)) c.loop.pages.items
    c.args.count c.loop.counter (record { low = c.loop.low; used = c.loop.used }) c.loop.cursor _ c.loop-test.true
    c.in_err-page.ensures.given c.loop.invariant))

pub loop-preserved : goal.loop-preserved
loop-preserved c =
    let low : c.slot-low.result + 1 ≡ suc c.in_ok-page.page.slot = omega (arith, c.slot-low.ensures) in
    rw (c.in_ok-push.ensures.items, low) (goes_on
    (read_page_at c.args.sources.now.slots.now (map arc_value c.args.sources.now.pool.now)) c.loop.pages.items
    c.args.count c.loop.counter (record { low = c.loop.low; used = c.loop.used }) c.loop.cursor
    (c.in_ok-page.page, record { low = suc c.in_ok-page.page.slot; used = c.in_ok-page.now })
    c.read_page.new.cursor _ c.loop-test.true c.in_ok-page.ensures.given c.loop.invariant)

pub returns-clause-ascend : goal.returns-clause-ascend
returns-clause-ascend c = chain_ascends c.args.sources.now.slots.now (map arc_value c.args.sources.now.pool.now)
    c.args.count (record { low = 0; used = c.args.used }) c.args.cursor.now c.loop.pages.items
    (record { low = c.loop.low; used = c.loop.used }) c.loop.cursor
    (is_done (read_page_at c.args.sources.now.slots.now (map arc_value c.args.sources.now.pool.now))
    c.loop.pages.items c.args.count c.loop.counter (record { low = c.loop.low; used = c.loop.used }) c.loop.cursor
    _ c.loop-test.false c.loop.invariant)

pub returns-clause-given : goal.returns-clause-given
returns-clause-given c = kept_read _ _ _ _ (is_done (read_page_at c.args.sources.now.slots.now
    (map arc_value c.args.sources.now.pool.now)) c.loop.pages.items c.args.count c.loop.counter
    (record { low = c.loop.low; used = c.loop.used }) c.loop.cursor _ c.loop-test.false c.loop.invariant)
