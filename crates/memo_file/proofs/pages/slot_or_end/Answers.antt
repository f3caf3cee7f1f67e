-- Answers to the goals that the check of `slot_or_end` leaves open.
use Rattle.std.proofs.Common.{◌≤◌, ◌^◌, sym, ◌∙◌, arith}
use Rattle.memo_file.proofs.Aging.{no_slot}
use Rattle.memo_file.proofs.pages.slot_or_end.Goals as goal

pub returns-in-Err : goal.returns-in-Err
returns-in-Err c =
    let far : 2 ^ 32 ≤ c.args.address = omega (arith, c.in-Err.ensures) in
    c.len-in-Err.ensures.count ∙ sym (no_slot c.args.slots.now c.args.address c.requires far)
