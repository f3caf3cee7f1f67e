-- Answers to the goals that the check of `operate_immediate` leaves open.
use Rattle.std.proofs.Common.{refl}
use Rattle.isa_spec.specs.declared.Instr.TheVariants as instr
use Rattle.rv_step.specs.declared.placed.Flow.TheVariants as flow
use Rattle.rv_step.proofs.Words.{computed-leads}
use Rattle.rv_step.proofs.computing.operate_immediate.Goals as goal

pub returns : goal.returns
returns c =
    let op = c.args.placed in
    computed-leads c.args.placed c.args.regs.now c.write.new.self op.rd c.immediate-value.result
    (instr.Immediate c.args.operation op.rd op.rs1 op.imm) flow.Next refl c.requires.stands c.write.ensures
    (λ w. rw (c.immediate-value.ensures, c.get.ensures) refl)
