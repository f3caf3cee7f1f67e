-- Answers to the goals that the check of `first_header` leaves open.
use Rattle.std.proofs.Common.{sym, ◌∙◌, zero-add, arith, ◌<◌}
use Rattle.elf_spec.specs.Header.{e_phnum}
use Rattle.elf_load.specs.Questions.{test_of}
use Rattle.elf_load.proofs.Searches.{find_more, find_here}
use Rattle.elf_load.proofs.refusals.first_header.Goals as goal

pub returns-then-holds : goal.returns-then-holds
returns-then-holds c =
    let below : c.loop-number.number < e_phnum c.args.bytes.now = omega arith in
    sym (find_here (test_of c.args.question c.args.bytes.now) 0 c.loop-number.number (e_phnum c.args.bytes.now)
    c.loop-number.number (zero-add c.loop-number.number) below c.loop-number.invariant
    (sym c.holds.ensures ∙ c.if-holds.true))

pub loop-number-preserved : goal.loop-number-preserved
loop-number-preserved c =
    find_more (test_of c.args.question c.args.bytes.now) 0 c.loop-number.number c.loop-number.number
    (zero-add c.loop-number.number) c.loop-number.invariant (sym c.holds.ensures ∙ c.if-holds.false)
