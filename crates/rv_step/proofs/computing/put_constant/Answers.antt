-- Answers to the goals that the check of `put_constant` leaves open.
use Rattle.std.proofs.Common.{refl}
use Rattle.isa_spec.specs.declared.Instr.TheVariants as instr
use Rattle.rv_step.specs.declared.placed.Flow.TheVariants as flow
use Rattle.rv_step.proofs.Words.{computed-leads}
use Rattle.rv_step.proofs.computing.put_constant.Goals as goal

pub returns : goal.returns
returns c =
    computed-leads c.args.placed c.args.regs.now c.write.new.self c.args.placed.rd c.args.placed.imm
    (instr.Lui c.args.placed.rd c.args.placed.imm) flow.Next refl c.requires.stands c.write.ensures
    (λ w. refl)
