-- Answers to the goals that the check of `find` leaves open.
use Rattle.std.proofs.Common.{◌<◌, length, arith, sym, ◌+◌, ◌-◌, ◌/◌}
use Rattle.memory_spec.specs.Pages.{slot_of}
use Rattle.page_store.proofs.Slots.{slot_of-length, slot_of-at, slot_of-later, slot_of-earlier}
use Rattle.page_store.proofs.lookup.find.Goals as goal

pub returns-then-here-number-clause-found : goal.returns-then-here-number-clause-found
returns-then-here-number-clause-found c =
    let pages = c.args.pages.now in
    let middle = c.loop-low.low + (c.loop-low.high - c.loop-low.low) / 2 in
    let lt : middle < length pages = omega arith in
    (sym (slot_of-at pages middle c.args.address c.requires lt (omega arith)), lt)

pub loop-low-preserved-then-here-number-2 : goal.loop-low-preserved-then-here-number-2
loop-low-preserved-then-here-number-2 c =
    let pages = c.args.pages.now in
    let middle = c.loop-low.low + (c.loop-low.high - c.loop-low.low) / 2 in
    record {
      within = c.loop-low.invariant.within;
      above = omega (arith, slot_of-later pages middle c.args.address c.requires (omega arith) (omega arith));
      below = c.loop-low.invariant.below;
    }

pub loop-low-preserved : goal.loop-low-preserved
loop-low-preserved c =
    let pages = c.args.pages.now in
    let middle = c.loop-low.low + (c.loop-low.high - c.loop-low.low) / 2 in
    record {
      within = omega arith;
      above = c.loop-low.invariant.above;
      below = λ mapped. slot_of-earlier pages middle c.args.address c.requires (omega arith) mapped;
    }

pub returns-clause-missing : goal.returns-clause-missing
returns-clause-missing c =
    let most = slot_of-length c.args.pages.now c.args.address in
    let below : slot_of c.args.pages.now c.args.address < length c.args.pages.now → slot_of c.args.pages.now
    c.args.address < c.loop-low.high =
    c.loop-low.invariant.below in
    grind arith
