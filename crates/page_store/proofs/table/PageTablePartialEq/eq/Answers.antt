-- Answers to the goals that the check of `eq` leaves open.
use Rattle.std.proofs.Common.{◌≡◌, ◌<◌, length, true, false, sym, ◌∙◌, arith}
use Rattle.page_store.proofs.Comparing.{compared, same_page, differ, same-more, all_same}
use Rattle.page_store.proofs.table.PageTablePartialEq.eq.Goals as goal

pub loop-slot-preserved : goal.loop-slot-preserved
loop-slot-preserved c =
    let a = c.args.self.now in
    let b = c.args.other.now in
    let slot = c.loop-slot.slot in
    let in_a : slot < length a = omega arith in
    let in_b : slot < length b = omega arith in
    same-more a b slot in_a in_b c.loop-slot.invariant
    (same_page a b slot c.page.result.now c.page-in-loop-slot.result.now c.page.ensures.page c.page-in-loop-slot.ensures.page
    (sym (c.ne.ensures) ∙ c.if-ne.false))

pub returns-then-ne-clause-eq : goal.returns-then-ne-clause-eq
returns-then-ne-clause-eq c =
    compared false c.args.self.now c.args.other.now
    (differ c.args.self.now c.args.other.now c.loop-slot.slot c.page.result.now c.page-in-loop-slot.result.now
    c.page.ensures.page c.page-in-loop-slot.ensures.page
    (sym (c.ne.ensures) ∙ c.if-ne.true))

pub returns-clause-eq : goal.returns-clause-eq
returns-clause-eq c =
    let long : length c.args.self.now ≡ length c.args.other.now = omega arith in
    compared true c.args.self.now c.args.other.now
    (all_same c.args.self.now c.args.other.now c.loop-slot.slot (omega arith) long c.loop-slot.invariant)
