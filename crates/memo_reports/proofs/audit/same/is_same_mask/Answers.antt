-- Answers to the goals that the check of `is_same_mask` leaves open.
use Rattle.std.proofs.Common.{refl, arith}
use Rattle.memo_reports.proofs.Masking.{words-same}
use Rattle.memo_reports.proofs.audit.same.is_same_mask.Goals as goal

pub returns-clause-same : goal.returns-clause-same
returns-clause-same c =
    let whole = c.loop-number.invariant.whole (omega (arith, c.loop-number-test.false)) in (
      λ yes. words-same c.args.a.now c.args.b.now whole.0 whole.1
          (λ number lt. c.loop-number.invariant.same number (omega (arith, lt))),
      λ same. refl,
    )

pub returns-clause-whole : goal.returns-clause-whole
returns-clause-whole c = (c.loop-number.invariant.whole (omega (arith, c.loop-number-test.false))).0
