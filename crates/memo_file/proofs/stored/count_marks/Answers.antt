-- Answers to the goals that the check of `count_marks` leaves open.
use Rattle.std.proofs.Common.{◌+◌, ℕ, take, get_or, refl, ap, ◌∙◌, arith}
use Rattle.std.specs.Prelude.{count_ones}
use Rattle.std.proofs.lemmas.List.{length-take}
use Rattle.std.proofs.lemmas.Nat.{ones_le_self}
use Rattle.memo_file.proofs.Marking.{count_more, count_few}
use Rattle.memo_file.proofs.stored.count_marks.Goals as goal

pub overflow_add-count : goal.overflow_add-count
overflow_add-count c =
    let i = c.loop-byte.byte-index in
    let b = get_or c.args.marks.now i 0 in
    omega (
      arith,
      count_few (take i c.args.marks.now),
      c.loop-byte.invariant,
      length-take i c.args.marks.now,
      ones_le_self b,
      c.type_inv.marks i,
      c.requires,
    )

pub loop-byte-preserved : goal.loop-byte-preserved
loop-byte-preserved c =
    let i = c.loop-byte.byte-index in
    let b = get_or c.args.marks.now i 0 in
    ap (λ (n : ℕ). n + count_ones b) c.loop-byte.invariant
    ∙ count_more c.args.marks.now i b (omega arith) refl (omega (arith, c.type_inv.marks i))
