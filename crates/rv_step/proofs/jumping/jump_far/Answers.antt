-- Answers to the goals that the check of `jump_far` leaves open.
use Rattle.std.proofs.Common.{◌%◌, refl, eq-eqb, arith}
use Rattle.isa_spec.specs.declared.Instr.TheVariants as instr
use Rattle.isa_spec.specs.Words.{difference_of}
use Rattle.rv_step.specs.Paging.{word_at}
use Rattle.rv_code.proofs.Standing.{leads_there}
use Rattle.rv_step.proofs.Words.{outside-leads, linked-pc}
use Rattle.rv_step.proofs.jumping.jump_far.Goals as goal

pub returns : goal.returns
returns c =
    let p = c.args.placed in
    outside-leads p c.args.regs.now c.set.new.self p.imm
    (instr.Jal p.rd (difference_of p.imm (word_at p.number p.index))) c.requires
    (λ w.
    rw (
      leads_there (word_at p.number p.index) p.imm (omega arith) (omega arith),
      eq-eqb (p.imm % 4) 0 c.if-target-ne0.false,
      linked-pc c.args.regs.now p.rd p.number p.index p.imm,
      c.set.ensures,
      c.behind.ensures,
    ) refl)
