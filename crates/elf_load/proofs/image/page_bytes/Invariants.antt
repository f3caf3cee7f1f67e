-- The invariant of the loop of `page_bytes`.
use Rattle.std.proofs.Common.{◌≡◌, ◌<◌, ◌+◌, ◌*◌, ℕ, length, get_or, map, reverse}
use Rattle.elf_load.proofs.Parts.{first_byte}
use Rattle.elf_load.proofs.image.page_bytes.Given as goal

-- the bytes are those of the first of the segments so far, which are the last on the page
abbrev pub invariant-loop-header : goal.invariant-loop-header
invariant-loop-header l =
    (length l.page ≡ 4096)
    × ((k : ℕ) → k < 4096
    → get_or l.page k 0 ≡ first_byte l.bytes (reverse (map (λ y. y.now) l.yielded)) (4096 * l.number + k))
