-- Answers to the goals that the check of `operate_shift` leaves open.
use Rattle.std.proofs.Common.{refl}
use Rattle.isa_spec.specs.declared.Instr.TheVariants as instr
use Rattle.isa_spec.specs.Registers.{register}
use Rattle.rv_step.specs.declared.placed.Flow.TheVariants as flow
use Rattle.rv_step.proofs.Words.{computed-leads, shift_result-low}
use Rattle.rv_step.proofs.computing.operate_shift.Goals as goal

pub returns : goal.returns
returns c =
    let op = c.args.placed in
    computed-leads c.args.placed c.args.regs.now c.write.new.self op.rd c.shift-value.result
    (instr.Shift c.args.operation op.rd op.rs1 op.imm) flow.Next refl c.requires.stands c.write.ensures
    (λ w. rw (
      c.shift-value.ensures,
      c.get.ensures,
      shift_result-low c.args.operation (register c.args.regs.now op.rs1) op.imm,
    ) refl)
