-- Answers to the goals that the check of `overlap_from` leaves open.
use Rattle.std.proofs.Common.{◌≡◌, ◌+◌, ◌-◌, ℕ, Bool, true, false, None, find, sym, ◌∙◌, ap₂, subst, arith}
use Rattle.std.specs.List.{range_with_len}
use Rattle.elf_spec.specs.Header.{program_header, e_phnum}
use Rattle.elf_spec.specs.Refusals.{overlaps}
use Rattle.elf_load.proofs.Searches.{find_more, find_here}
use Rattle.elf_load.proofs.refusals.overlap_from.Goals as goal

pub returns-then-overlaps : goal.returns-then-overlaps
returns-then-overlaps c =
    let bytes = c.args.bytes.now in
    let test : ℕ → Bool = λ j. overlaps (program_header bytes c.args.earlier) (program_header bytes j) in
    let here : test c.loop-number.number ≡ true =
    sym (ap₂ overlaps c.header_read-one.ensures c.header_read.ensures) ∙ sym c.overlaps.ensures ∙ c.if-overlaps.true in
    sym (find_here test c.args.from (c.loop-number.number - c.args.from) (e_phnum bytes - c.args.from)
    c.loop-number.number (omega arith) (omega arith) c.loop-number.invariant here)

pub loop-number-preserved : goal.loop-number-preserved
loop-number-preserved c =
    let bytes = c.args.bytes.now in
    let test : ℕ → Bool = λ j. overlaps (program_header bytes c.args.earlier) (program_header bytes j) in
    let here : test c.loop-number.number ≡ false =
    sym (ap₂ overlaps c.header_read-one.ensures c.header_read.ensures) ∙ sym c.overlaps.ensures ∙ c.if-overlaps.false in
    let count : c.loop-number.number - c.args.from + 1 ≡ c.loop-number.number + 1 - c.args.from = omega arith in
    let P : ℕ → Type 0 = λ n. find test (range_with_len c.args.from n) ≡ None in
    subst P count (find_more test c.args.from (c.loop-number.number - c.args.from) c.loop-number.number (omega arith)
    c.loop-number.invariant here)
