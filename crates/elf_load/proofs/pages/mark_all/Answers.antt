-- Answers to the goals that the check of `mark_all` leaves open.
use Rattle.std.proofs.Common.{◌<◌, ◌||◌, ◌&&◌, Bool, length, sym, ap, ap₂, ◌∙◌, subst}
use Rattle.elf_spec.specs.Header.{ProgramHeader, is_segment}
use Rattle.elf_spec.specs.Segments.{touches}
use Rattle.elf_load.proofs.Along.{list_any_more}
use Rattle.elf_load.proofs.pages.mark_all.Goals as goal

pub loop-i-preserved : goal.loop-i-preserved
loop-i-preserved c = (
  c.mark_segment.ensures.same ∙ c.loop-i.invariant.0,
  λ k below.
      let inside : k < length c.loop-i.marks = subst (λ n. k < n) c.mark_segment.ensures.same below in
      let touching : ProgramHeader → Bool = λ header. is_segment header && touches k header in
      c.mark_segment.ensures.each k inside ∙ ap₂ (λ (a : Bool) (b : Bool). a || b) (c.loop-i.invariant.1 k inside)
      (ap touching c.header_at.ensures) ∙ sym (list_any_more k c.args.bytes.now c.loop-i.i),
)
