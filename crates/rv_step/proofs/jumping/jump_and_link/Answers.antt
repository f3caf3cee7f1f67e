-- Answers to the goals that the check of `jump_and_link` leaves open.
use Rattle.std.proofs.Common.{◌<◌, refl}
use Rattle.isa_spec.specs.declared.Instr.TheVariants as instr
use Rattle.rv_code.specs.Meaning.{offset_to}
use Rattle.rv_step.specs.Paging.{word_at}
use Rattle.rv_step.proofs.Words.{inside-leads, offset-leads, word_at-aligned, linked-pc}
use Rattle.rv_step.proofs.jumping.jump_and_link.Goals as goal

pub returns : goal.returns
returns c =
    let p = c.args.placed in
    let inside : p.imm < 1024 = p.inside c.requires.inside in
    inside-leads p c.args.regs.now c.write.new.self p.imm
    (instr.Jal p.rd (offset_to (word_at p.number p.index) p.imm)) c.requires.stands inside
    (λ w.
    rw (
      offset-leads p.number p.index p.imm p.few_pages (p.within c.requires.inside) inside,
      word_at-aligned p.number p.imm,
      linked-pc c.args.regs.now p.rd p.number p.index (word_at p.number p.imm),
      c.write.ensures,
      c.behind.ensures,
    ) refl)
