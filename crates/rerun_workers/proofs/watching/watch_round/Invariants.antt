-- The invariant of the loop of `watch_round`.
use Rattle.std.specs.Prelude.{◌≡◌, ◌≤◌, All, vec_len, vec_capacity}
use Rattle.std.specs.List.Sorted.{IsStrictlyIncreasing}
use Rattle.rerun_workers.proofs.watching.watch_round.Given as goal

-- the numbers ascend, there is one for each look at most, and the last look saw no less
abbrev pub invariant-loop-looks : goal.invariant-loop-looks
invariant-loop-looks g l =
    IsStrictlyIncreasing l.numbers.items × (vec_len l.numbers ≤ l.looks)
    × (vec_capacity l.numbers ≡ vec_capacity l.fn.numbers)
    × All (λ n. n ≤ l.watch.reader.seen) l.numbers.items
