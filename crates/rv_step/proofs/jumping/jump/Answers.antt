-- Answers to the goals that the check of `jump` leaves open.
use Rattle.std.proofs.Common.{◌<◌, refl}
use Rattle.isa_spec.specs.declared.Instr.TheVariants as instr
use Rattle.rv_code.specs.Meaning.{offset_to}
use Rattle.rv_step.specs.Paging.{word_at, at_word}
use Rattle.rv_step.proofs.Words.{inside-leads, offset-leads, word_at-aligned, linked-zero}
use Rattle.rv_step.proofs.jumping.jump.Goals as goal

pub returns : goal.returns
returns c w r =
    let p = c.args.placed in
    let inside : p.imm < 1024 = p.inside c.requires.inside in
    inside-leads p r r p.imm
    (instr.Jal 0 (offset_to (word_at p.number p.index) p.imm)) c.requires.stands inside
    (λ v.
    rw (
      linked-zero (at_word p.number p.index r),
      offset-leads p.number p.index p.imm p.few_pages (p.within c.requires.inside) inside,
      word_at-aligned p.number p.imm,
    ) refl)
    w
