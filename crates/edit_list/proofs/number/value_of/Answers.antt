-- Answers to the goals that the check of `value_of` leaves open.
use Rattle.std.proofs.Common.{arith}
use Rattle.edit_list.proofs.Numerals.{one_more, small_so_far}
use Rattle.edit_list.proofs.number.value_of.Goals as goal

pub overflow_mul-value : goal.overflow_mul-value
overflow_mul-value c =
    let small = small_so_far c.args.digits.now c.loop-digit.digit-index c.requires.digits c.requires.few in
    omega (arith, c.loop-digit.invariant)

pub overflow_add-value : goal.overflow_add-value
overflow_add-value c =
    let small = small_so_far c.args.digits.now c.loop-digit.digit-index c.requires.digits c.requires.few in
    omega (arith, c.loop-digit.invariant)

pub loop-digit-preserved : goal.loop-digit-preserved
loop-digit-preserved c =
    let more = one_more c.args.digits.now c.loop-digit.digit-index c.requires.digits (omega arith) in
    omega (arith, c.loop-digit.invariant)
