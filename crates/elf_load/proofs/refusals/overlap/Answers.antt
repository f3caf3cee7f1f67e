-- Answers to the goals that the check of `overlap` leaves open.
use Rattle.std.proofs.Common.{◌≡◌, ◌+◌, ◌-◌, ℕ, Bool, List, Some, None, find, map, option_map, sym, ap, ◌∙◌, arith}
use Rattle.std.specs.List.{range_with_len}
use Rattle.elf_spec.specs.declared.Refusal.TheVariants.{Overlap}
use Rattle.elf_spec.specs.Header.{program_header, e_phnum}
use Rattle.elf_spec.specs.Refusals.{overlaps}
use Rattle.elf_load.proofs.Searches.{rows_more, rows_here, find-map}
use Rattle.elf_load.proofs.refusals.overlap.Goals as goal

-- the pairs of a number with each later one
row : ℕ → ℕ → List (ℕ × ℕ)
row total i = map (λ j. (i, j)) (range_with_len (i + 1) (total - (i + 1)))

pub returns-in-Some : goal.returns-in-Some
unfolding row
returns-in-Some c =
    let bytes = c.args.bytes.now in
    let total = e_phnum bytes in
    let earlier = c.loop-earlier.earlier in
    let test : ℕ × ℕ → Bool = λ pair. overlaps (program_header bytes pair.0) (program_header bytes pair.1) in
    let pair_of : ℕ → ℕ × ℕ = λ j. (earlier, j) in
    let found : find test (row total earlier) ≡ Some (pair_of c.in-Some.later) =
    find-map test pair_of (range_with_len (earlier + 1) (total - (earlier + 1)))
    ∙ ap (option_map pair_of) (sym c.overlap_from.ensures ∙ c.in-Some.is) in
    let whole =
    rows_here test (row total) earlier total (pair_of c.in-Some.later) (omega arith) c.loop-earlier.invariant found in
    sym (ap (option_map (λ (pair : ℕ × ℕ). Overlap pair.0 pair.1)) whole)

pub loop-earlier-preserved : goal.loop-earlier-preserved
unfolding row
loop-earlier-preserved c =
    let bytes = c.args.bytes.now in
    let total = e_phnum bytes in
    let earlier = c.loop-earlier.earlier in
    let test : ℕ × ℕ → Bool = λ pair. overlaps (program_header bytes pair.0) (program_header bytes pair.1) in
    let pair_of : ℕ → ℕ × ℕ = λ j. (earlier, j) in
    let none : find test (row total earlier) ≡ None =
    find-map test pair_of (range_with_len (earlier + 1) (total - (earlier + 1)))
    ∙ ap (option_map pair_of) (sym c.overlap_from.ensures ∙ c.in-None.is) in
    rows_more test (row total) earlier c.loop-earlier.invariant none
