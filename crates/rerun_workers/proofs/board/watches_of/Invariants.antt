-- The invariant of the loop of `watches_of`.
use Rattle.std.specs.Prelude.{◌≡◌, vec_len}
use Rattle.rerun_workers.proofs.board.watches_of.Given as goal

-- this many watches were made, and nothing was counted meanwhile
abbrev pub invariant-loop-made : goal.invariant-loop-made
invariant-loop-made g l =
    (vec_len l.seats ≡ l.made) × (l.counter.writer.added ≡ l.fn.counter.writer.added)
    × (l.counter.writer.table ≡ l.fn.counter.writer.table)
