-- Answers to the goals that the check of `mark_pages` leaves open.
use Rattle.std.proofs.Common.{◌≡◌, ◌<◌, ◌≤◌, ◌+◌, ◌⊎◌, ℕ, ◌&&◌, ◌||◌, min, false, nat_le, nat_lt, length, get_or, ap, ◌∙◌, arith, subst, sym}
use Rattle.elf_load.proofs.pages.mark_pages.Goals as goal

-- a page up to the last is one before the loop's end
same_pages :
    (first last number count end k : ℕ) → k < count → end ≡ min (last + 1) count → end ≤ number
    → (number ≤ first) ⊎ (number ≤ end)
    → (nat_le first k && nat_lt k number) ≡ (nat_le first k && nat_le k last)
same_pages first last number count end k inside is low high = grind arith

pub returns-clause-each : goal.returns-clause-each
returns-clause-each c k below =
    let inside : k < length c.loop-number.marks = subst (λ n. k < n) (sym c.loop-number.invariant.0) below in
    c.loop-number.invariant.1 k inside ∙ ap (λ b. get_or c.args.marks.now k false || b)
    (same_pages c.args.first c.args.last c.loop-number.number (length c.args.marks.now) c.min-number-end.result k below
    c.min-number-end.ensures c.loop-number-test.false c.loop-number.invariant.2)
