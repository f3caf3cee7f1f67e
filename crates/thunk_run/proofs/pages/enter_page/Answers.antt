-- Answers to the goals that the check of `enter_page` leaves open.
use Rattle.std.proofs.Common.{arith}
use Rattle.thunk_run.proofs.Entering.{entered-outcome, entered-runs}
use Rattle.thunk_run.proofs.pages.enter_page.Goals as goal

pub returns-in_err-page-clause-outcome : goal.returns-in_err-page-clause-outcome
returns-in_err-page-clause-outcome g c n some =
    entered-outcome (g.M.Mem.workspace c.args.mem.now) (g.M.Mem.workspace c.enter.new.self) c.args.regs.now c.pc-pc.result
    c.in_ok-slot.slot n c.pc-pc.ensures.value c.in_ok-slot.ensures.entered c.if-pc-ne0.false some

pub returns-then-number-pc-clause-runs : goal.returns-then-number-pc-clause-runs
returns-then-number-pc-clause-runs g c =
    entered-runs (g.M.Mem.workspace c.args.mem.now) (g.M.Mem.workspace c.enter.new.self) c.pc-pc.result
    c.in_ok-slot.slot c.in_ok-page.page.now.number c.in_ok-page.page.now.bytes c.in_ok-slot.ensures.entered (omega arith)
    c.in_ok-page.ensures.shown

pub returns-then-number-pc-clause-outcome : goal.returns-then-number-pc-clause-outcome
returns-then-number-pc-clause-outcome g c n some =
    entered-outcome (g.M.Mem.workspace c.args.mem.now) (g.M.Mem.workspace c.enter.new.self) c.args.regs.now c.pc-pc.result
    c.in_ok-slot.slot n c.pc-pc.ensures.value c.in_ok-slot.ensures.entered c.if-pc-ne0.false some

pub returns-else-number-pc-clause-outcome : goal.returns-else-number-pc-clause-outcome
returns-else-number-pc-clause-outcome g c n some =
    entered-outcome (g.M.Mem.workspace c.args.mem.now) (g.M.Mem.workspace c.enter.new.self) c.args.regs.now c.pc-pc.result
    c.in_ok-slot.slot n c.pc-pc.ensures.value c.in_ok-slot.ensures.entered c.if-pc-ne0.false some
