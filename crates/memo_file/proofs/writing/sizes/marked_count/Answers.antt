-- One more word adds its marks.
use Rattle.std.proofs.Common.{arith}
use Rattle.std.proofs.lemmas.Nat.{ones-le}
use Rattle.memo_file.proofs.WritingMasks.{count_step}
use Rattle.memo_file.proofs.writing.sizes.marked_count.Goals as goal

pub loop-number-preserved : goal.loop-number-preserved
loop-number-preserved c = record {
  whole = λ _. c.word.ensures.whole;
  so_far = count_step c.args.mask.now c.loop-number.number c.word.result c.loop-number.count c.word.ensures.marks
      c.loop-number.invariant.so_far;
  few = omega (arith, ones-le 64 c.word.result c.word.type_inv, c.loop-number.invariant.few);
}
