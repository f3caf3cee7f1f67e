-- Answers to the goals that the check of `fill_eight` leaves open.
use Rattle.memo_file.proofs.Marking.{bit_room, bit_more, bit_skip}
use Rattle.memo_file.proofs.stored.fill_eight.Goals as goal
use Rattle.memo_file.proofs.stored.fill_eight.Goals.{then-byte-bit-eq1, else-byte-bit-eq1}

pub bounds-bytes-next : goal.bounds-bytes-next
bounds-bytes-next c =
    bit_room c.args.marks.now c.args.bytes.now c.args.group c.loop-bit.bit c.loop-bit.stored.mask
    c.loop-bit.stored.page c.loop-bit.next c.requires.size c.requires.group c.loop-bit-test.true
    c.loop-bit.invariant c.if-byte-bit-eq1.true c.requires.count

pub loop-bit-preserved : goal.loop-bit-preserved
loop-bit-preserved c =
    elim c.if-byte-bit-eq1.branch [
      | then-byte-bit-eq1 w ↦
          rw (w.stored-is, w.next-is, w.set.ensures, w.set-then-byte-bit-eq1.ensures)
          (bit_more c.args.marks.now c.args.bytes.now c.args.group c.loop-bit.bit c.loop-bit.stored.mask
          c.loop-bit.stored.page c.loop-bit.next c.requires.size c.requires.group c.loop-bit-test.true
          c.loop-bit.invariant w.if-byte-bit-eq1.true c.requires.count)
      | else-byte-bit-eq1 w ↦
          rw (w.stored-is, w.next-is)
          (bit_skip c.args.marks.now c.args.bytes.now c.args.group c.loop-bit.bit c.loop-bit.stored.mask
          c.loop-bit.stored.page c.loop-bit.next c.requires.size c.requires.group c.loop-bit-test.true
          c.loop-bit.invariant w.if-byte-bit-eq1.false)
    ]
