-- Answers to the goals that the check of `fill` leaves open.
use Rattle.std.proofs.Common.{◌≡◌, ◌≤◌, ◌*◌, ℕ, List, length, arith, ap, ◌∙◌}
use Rattle.std.proofs.lemmas.List.{length-replicate}
use Rattle.memory_spec.specs.Pages.{zero_page}
use Rattle.thunk_spec.specs.Delta.{is_stored}
use Rattle.memo_spec.specs.Reading.{marks_of}
use Rattle.memo_spec.proofs.Formats.{AreBytes-of}
use Rattle.memo_spec.proofs.Masks.{length_marks, stored_marks}
use Rattle.memo_file.proofs.Marking.{filled_first, filled_none, filled_eight, filled_last}
use Rattle.memo_file.proofs.stored.fill.Goals as goal
use Rattle.memo_file.proofs.stored.fill.Goals.{then-marks-group-ne0, else-marks-group-ne0}

whole : (marks : List ℕ) → length marks ≡ 512 → length (marks_of marks) ≡ 4096
whole marks size = omega (arith, length_marks marks, size)

blank_long : length zero_page ≡ 4096
unfolding zero_page
blank_long = length-replicate {A = ℕ} 4096 0

pub loop-group-init : goal.loop-group-init
loop-group-init c =
    rw c.requires.blank (filled_first (marks_of c.args.marks.now) c.args.bytes.now zero_page
    (whole c.args.marks.now c.requires.size) blank_long)

pub loop-group-preserved : goal.loop-group-preserved
loop-group-preserved c =
    elim c.if-marks-group-ne0.branch [
      | then-marks-group-ne0 w ↦
          rw (w.stored-is, w.next-is)
          (filled_eight (marks_of c.args.marks.now) c.args.bytes.now c.loop-group.group
          w.fill_eight-next.new.stored.mask w.fill_eight-next.new.stored.page w.fill_eight-next.result
          w.fill_eight-next.ensures)
      | else-marks-group-ne0 w ↦
          rw (w.stored-is, w.next-is)
          (filled_none c.args.marks.now c.args.bytes.now c.loop-group.group c.loop-group.stored.mask
          c.loop-group.stored.page c.loop-group.next c.loop-group.invariant
          (omega (arith, c.loop-group-test.true, c.requires.size)) w.if-marks-group-ne0.false)
    ]

pub returns-clause-some : goal.returns-clause-some
returns-clause-some c =
    let past : 512 ≤ c.loop-group.group = c.loop-group-test.false in
    let mask = (filled_last (marks_of c.args.marks.now) c.args.bytes.now (8 * c.loop-group.group)
    c.loop-group.stored.mask c.loop-group.stored.page c.loop-group.next c.loop-group.invariant
    (omega (arith, past, c.loop-group.invariant.within, whole c.args.marks.now c.requires.size))
    c.requires.count).0 in
    ap is_stored mask ∙ stored_marks c.args.marks.now
    (AreBytes-of c.args.marks.now (λ i. omega (arith, c.type_inv.marks i))) ∙ c.requires.some

pub returns-clause-mask : goal.returns-clause-mask
returns-clause-mask c =
    let past : 512 ≤ c.loop-group.group = c.loop-group-test.false in
    (filled_last (marks_of c.args.marks.now) c.args.bytes.now (8 * c.loop-group.group) c.loop-group.stored.mask
    c.loop-group.stored.page c.loop-group.next c.loop-group.invariant
    (omega (arith, past, c.loop-group.invariant.within, whole c.args.marks.now c.requires.size)) c.requires.count).0

pub returns-clause-bytes : goal.returns-clause-bytes
returns-clause-bytes c =
    let past : 512 ≤ c.loop-group.group = c.loop-group-test.false in
    (filled_last (marks_of c.args.marks.now) c.args.bytes.now (8 * c.loop-group.group) c.loop-group.stored.mask
    c.loop-group.stored.page c.loop-group.next c.loop-group.invariant
    (omega (arith, past, c.loop-group.invariant.within, whole c.args.marks.now c.requires.size)) c.requires.count).1
