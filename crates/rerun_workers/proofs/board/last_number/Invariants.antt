-- The invariant of the loop of `last_number`.
use Rattle.std.specs.Prelude.{◌≡◌, ◌≤◌, ℕ, All, vec_len}
use Rattle.rerun_workers.proofs.board.last_number.Given as goal

-- nothing is counted; and what bounds the views of the remaining watches, and that of the writer, bounds all
abbrev pub invariant-loop-watch : goal.invariant-loop-watch
invariant-loop-watch g l =
    (l.counter.writer.added ≡ l.fn.counter.writer.added) × (l.counter.writer.table ≡ l.fn.counter.writer.table)
    × ((n : ℕ) → All (λ watch. watch.reader.seen ≤ n) l.watches.items → l.counter.writer.seen ≤ n
    → All (λ watch. watch.reader.seen ≤ n) l.fn.watches.items)

abbrev pub decreases-loop-watch : goal.decreases-loop-watch
decreases-loop-watch g l = vec_len l.watches
