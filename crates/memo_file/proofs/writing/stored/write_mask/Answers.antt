-- One more word.
use Rattle.std.proofs.Common.{arith}
use Rattle.memo_file.proofs.WritingMasks.{mask_step}
use Rattle.memo_file.proofs.writing.stored.write_mask.Goals as goal

pub loop-number-preserved : goal.loop-number-preserved
loop-number-preserved c =
    record {
      whole = λ _. c.word.ensures.whole;
      so_far = mask_step c.args.mask.now c.loop-number.number c.word.result c.loop-number.out.items
          c.extend_from_slice.new.self.items _ c.to_le_bytes.result (omega (arith, c.word.ensures.whole))
          c.word.ensures.marks c.to_le_bytes.ensures c.in_ok-extend_from_slice.ensures.items
          c.loop-number.invariant.so_far;
    }
