-- The invariants of the loops of `mark_pages`.
use Rattle.std.proofs.Common.{◌≡◌, ◌<◌, ◌≤◌, ◌⊎◌, ℕ, ◌&&◌, ◌||◌, false, nat_le, nat_lt, length, get_or}
use Rattle.elf_load.proofs.pages.mark_pages.Given as goal

-- the pages so far are marked, and no other mark changed; at the end no page is missing
abbrev pub invariant-loop-number : goal.invariant-loop-number
invariant-loop-number l =
    (length l.marks ≡ length l.initial.marks)
    × ((k : ℕ) → k < length l.marks → get_or l.marks k false
    ≡ (get_or l.initial.marks k false || (nat_le l.first k && nat_lt k l.number)))
    × ((l.number ≤ l.first) ⊎ (l.number ≤ l.number-end))
