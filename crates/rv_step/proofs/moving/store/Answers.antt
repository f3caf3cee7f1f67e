-- Answers to the goals that the check of `store` leaves open.
use Rattle.std.proofs.Common.{◌+◌, ◌%◌, refl, sym, eqb-true}
use Rattle.rv_step.proofs.Pages.{storing-runs_on, store-executes}
use Rattle.memory_spec.specs.Access.{byte_count}
use Rattle.rv_step.proofs.moving.store.Goals as goal

pub returns-else-address-placed-clause-ok : goal.returns-else-address-placed-clause-ok
returns-else-address-placed-clause-ok g c =
    let p = c.args.placed in
    let w = g.M.Mem.workspace c.args.mem.now in
    let address = (c.get.result + p.imm) % 4294967296 in
    let stored = c.in-Ok.ensures in
    rw c.requires (
      store-executes w (g.M.Mem.workspace c.store.new.self) p.number p.index c.args.regs.now c.args.kind
          c.size_stored-size.result p.rs1 p.rs2 p.imm address c.get-value.result
          c.size_stored-size.ensures (rw c.get.ensures refl) (sym c.get-value.ensures) (sym c.if-not-is_aligned.ensures)
          stored.0 stored.1,
      rw stored.1
          (storing-runs_on w p.number address c.get-value.result c.size_stored-size.result c.if-address-placed.false
          (eqb-true (address % byte_count c.size_stored-size.result) 0 (sym c.if-not-is_aligned.ensures))),
    )
