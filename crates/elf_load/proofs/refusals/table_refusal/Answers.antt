-- Answers to the goals that the check of `table_refusal` leaves open.
use Rattle.std.proofs.Common.{[], ◌∷◌, sym, ◌∙◌}
use Rattle.elf_spec.specs.Refusals.{short_table, dynamic, short_segment, outside, overlap}
use Rattle.elf_load.proofs.Given.{skip, stop, last}
use Rattle.elf_load.proofs.refusals.table_refusal.Goals as goal

pub returns-in-Some : goal.returns-in-Some
returns-in-Some c =
    let bytes = c.args.bytes.now in
    sym (stop (short_table bytes) (dynamic bytes ∷ short_segment bytes ∷ outside bytes ∷ overlap bytes ∷ [])
    c.in-Some.refusal (sym c.short_table.ensures ∙ c.in-Some.is))

pub returns-in-Some-dynamic : goal.returns-in-Some-dynamic
returns-in-Some-dynamic c =
    let bytes = c.args.bytes.now in
    sym (skip (short_table bytes) (dynamic bytes ∷ short_segment bytes ∷ outside bytes ∷ overlap bytes ∷ [])
    (sym c.short_table.ensures ∙ c.in-None.is) ∙
    stop (dynamic bytes) (short_segment bytes ∷ outside bytes ∷ overlap bytes ∷ []) c.in-Some-dynamic.refusal
    (sym c.dynamic.ensures ∙ c.in-Some-dynamic.is))

pub returns-in-Some-short_segment : goal.returns-in-Some-short_segment
returns-in-Some-short_segment c =
    let bytes = c.args.bytes.now in
    sym (skip (short_table bytes) (dynamic bytes ∷ short_segment bytes ∷ outside bytes ∷ overlap bytes ∷ [])
    (sym c.short_table.ensures ∙ c.in-None.is) ∙
    skip (dynamic bytes) (short_segment bytes ∷ outside bytes ∷ overlap bytes ∷ [])
    (sym c.dynamic.ensures ∙ c.in-None-dynamic.is) ∙
    stop (short_segment bytes) (outside bytes ∷ overlap bytes ∷ []) c.in-Some-short_segment.refusal
    (sym c.short_segment.ensures ∙ c.in-Some-short_segment.is))

pub returns-in-Some-outside : goal.returns-in-Some-outside
returns-in-Some-outside c =
    let bytes = c.args.bytes.now in
    sym (skip (short_table bytes) (dynamic bytes ∷ short_segment bytes ∷ outside bytes ∷ overlap bytes ∷ [])
    (sym c.short_table.ensures ∙ c.in-None.is) ∙
    skip (dynamic bytes) (short_segment bytes ∷ outside bytes ∷ overlap bytes ∷ [])
    (sym c.dynamic.ensures ∙ c.in-None-dynamic.is) ∙
    skip (short_segment bytes) (outside bytes ∷ overlap bytes ∷ [])
    (sym c.short_segment.ensures ∙ c.in-None-short_segment.is) ∙
    stop (outside bytes) (overlap bytes ∷ []) c.in-Some-outside.refusal (sym c.outside.ensures ∙ c.in-Some-outside.is))

pub returns : goal.returns
returns c =
    let bytes = c.args.bytes.now in
    sym (skip (short_table bytes) (dynamic bytes ∷ short_segment bytes ∷ outside bytes ∷ overlap bytes ∷ [])
    (sym c.short_table.ensures ∙ c.in-None.is) ∙
    skip (dynamic bytes) (short_segment bytes ∷ outside bytes ∷ overlap bytes ∷ [])
    (sym c.dynamic.ensures ∙ c.in-None-dynamic.is) ∙
    skip (short_segment bytes) (outside bytes ∷ overlap bytes ∷ [])
    (sym c.short_segment.ensures ∙ c.in-None-short_segment.is) ∙
    skip (outside bytes) (overlap bytes ∷ []) (sym c.outside.ensures ∙ c.in-None-outside.is) ∙
    last (overlap bytes) ∙ sym c.overlap.ensures)
