-- Answers to the goals that the check of `jump_to_register` leaves open.
use Rattle.std.proofs.Common.{◌/◌, ◌%◌, refl, eq-eqb, arith}
use Rattle.isa_spec.specs.declared.Instr.TheVariants as instr
use Rattle.rv_step.proofs.Words.{inside-leads, outside-leads, linked-pc, word_at-inside}
use Rattle.rv_step.proofs.jumping.jump_to_register.Goals as goal

pub returns-then-target-placed : goal.returns-then-target-placed
returns-then-target-placed c =
    let p = c.args.placed in
    let t = c.target_of-target.result in
    inside-leads p c.args.regs.now c.set.new.self (t % 4096 / 4)
    (instr.Jalr p.rd p.rs1 p.imm) c.requires (omega arith)
    (λ w.
    rw (
      ← c.target_of-target.ensures,
      eq-eqb (t % 4) 0 c.if-target-ne0.false,
      word_at-inside p.number t (omega arith) c.if-target-placed.true c.if-target-ne0.false,
      linked-pc c.args.regs.now p.rd p.number p.index t,
      c.set.ensures,
      c.behind.ensures,
    ) refl)

pub returns-else-target-placed : goal.returns-else-target-placed
returns-else-target-placed c =
    let p = c.args.placed in
    let t = c.target_of-target.result in
    outside-leads p c.args.regs.now c.set.new.self t
    (instr.Jalr p.rd p.rs1 p.imm) c.requires
    (λ w.
    rw (
      ← c.target_of-target.ensures,
      eq-eqb (t % 4) 0 c.if-target-ne0.false,
      linked-pc c.args.regs.now p.rd p.number p.index t,
      c.set.ensures,
      c.behind.ensures,
    ) refl)
