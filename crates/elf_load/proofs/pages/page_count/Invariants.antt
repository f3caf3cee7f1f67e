-- The invariants of the loops of `page_count`.
use Rattle.std.proofs.Common.{◌≡◌, ◌≤◌, length, filter}
use Rattle.std.specs.List.{range_with_len, list_any}
use Rattle.elf_spec.specs.Header.{segments}
use Rattle.elf_spec.specs.Segments.{touches}
use Rattle.elf_load.proofs.pages.page_count.Given as goal

-- how many pages so far are touched
abbrev pub invariant-loop-number : goal.invariant-loop-number
invariant-loop-number l =
    (l.count ≡ length (filter (λ n. list_any (touches n) (segments l.bytes)) (range_with_len 0 l.number)))
    × (l.count ≤ l.number)
