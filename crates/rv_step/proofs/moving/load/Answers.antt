-- Answers to the goals that the check of `load` leaves open.
use Rattle.std.proofs.Common.{◌+◌, ◌%◌, refl, sym}
use Rattle.rv_step.proofs.Pages.{taking-runs_on, load-executes}
use Rattle.rv_step.proofs.moving.load.Goals as goal

pub returns-in-Ok-clause-ok : goal.returns-in-Ok-clause-ok
returns-in-Ok-clause-ok g c =
    let p = c.args.placed in
    let w = g.M.Mem.workspace c.args.mem.now in
    let address = (c.get.result + p.imm) % 4294967296 in
    let found = c.in-Ok.ensures.found in
    rw c.requires.stands (
      load-executes w (g.M.Mem.workspace c.load.new.self) p.number p.index c.args.regs.now c.write.new.self c.args.kind
          c.size_loaded-size.result p.rd p.rs1 p.imm address c.in-Ok.value
          c.extended.result c.size_loaded-size.ensures (rw c.get.ensures refl) (sym c.if-not-is_aligned.ensures) found.0
          c.extended.ensures c.write.ensures found.1,
      rw found.1 (taking-runs_on w p.number address),
    )
