-- Answers to the goals that the check of `page_count` leaves open.
use Rattle.std.proofs.Common.{◌≤◌, ◌+◌, ℕ, Bool, true, false, cond, sym, ap₂, ◌∙◌, subst, arith}
use Rattle.std.specs.List.{list_any}
use Rattle.elf_spec.specs.Header.{segments}
use Rattle.elf_spec.specs.Segments.{touches}
use Rattle.elf_load.proofs.Along.{count_more}
use Rattle.elf_load.proofs.pages.page_count.Goals as goal

-- a count that rises by one at most
one_more : (b : Bool) (count number : ℕ) → count ≤ number → cond b (count + 1) count ≤ number + 1
one_more true count number within = omega arith
one_more false count number within = omega arith

pub loop-number-preserved : goal.loop-number-preserved
loop-number-preserved c =
    let next : Bool → ℕ → ℕ = λ b count. cond b (count + 1) count in
    let test : ℕ → Bool = λ n. list_any (touches n) (segments c.args.bytes.now) in
    let marked = c.requires.each c.loop-number.number (omega arith) in
    let P : ℕ → Type 0 = λ n. n ≤ c.loop-number.number + 1 in (
      c.count_with-count.ensures ∙ ap₂ next marked c.loop-number.invariant.0
          ∙ sym (count_more test c.loop-number.number),
      subst P (sym c.count_with-count.ensures)
          (one_more _ c.loop-number.count c.loop-number.number c.loop-number.invariant.1),
    )
