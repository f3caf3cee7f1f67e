-- Answers to the goals that the check of `push_data` leaves open.
use Rattle.std.proofs.Common.{◌≡◌, ◌+◌, ◌-◌, refl, ◌∙◌, arith}
use Rattle.run_history.proofs.DataPages.{data_pages-done, data_pages-next}
use Rattle.run_history.proofs.start.push_data.Goals as goal

pub loop-i-init : goal.loop-i-init
loop-i-init c =
    let number : c.args.number + 0 ≡ c.args.number = omega arith in
    let count : c.args.count - 0 ≡ c.args.count = omega arith in
    rw (number, count) refl

pub loop-i-preserved : goal.loop-i-preserved
loop-i-preserved c =
    rw c.in_ok-push.ensures.items
    (data_pages-next c.loop-i.pages.items c.new.result c.args.number c.loop-i.i c.args.count (omega arith)
    (grind (arith, c.new.ensures, c.from_bits_retain.ensures))
    ∙ c.loop-i.invariant)

pub returns : goal.returns
returns c = data_pages-done c.loop-i.pages.items _ (c.args.number + c.loop-i.i) (c.args.count - c.loop-i.i)
    (omega arith) c.loop-i.invariant
