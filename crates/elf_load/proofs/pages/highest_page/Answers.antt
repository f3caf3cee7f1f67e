-- Answers to the goals that the check of `highest_page` leaves open.
use Rattle.std.proofs.Common.{ℕ, cond, max, sym, ap₂, ◌∙◌}
use Rattle.elf_spec.specs.Header.{ProgramHeader, is_segment}
use Rattle.elf_spec.specs.Segments.{last_page}
use Rattle.elf_load.proofs.Along.{highest_more}
use Rattle.elf_load.proofs.pages.highest_page.Goals as goal

pub loop-i-preserved : goal.loop-i-preserved
loop-i-preserved c =
    let next : ProgramHeader → ℕ → ℕ =
    λ header highest. cond (is_segment header) (max highest (last_page header)) highest in (
      c.higher-highest.ensures.page ∙ ap₂ next c.header_at.ensures c.loop-i.invariant.0
          ∙ sym (highest_more c.args.bytes.now c.loop-i.i),
      c.higher-highest.ensures.small,
    )
