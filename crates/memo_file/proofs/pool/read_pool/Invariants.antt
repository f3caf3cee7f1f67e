-- The pages so far are known, and with those still to be read they are all.
use Rattle.std.proofs.Common.{◌≡◌, ◌-◌, [], map}
use Rattle.std.specs.Arc.{arc_value}
use Rattle.memo_spec.specs.Reader.{chain}
use Rattle.memo_spec.specs.Reading.{pool_page_at}
use Rattle.memo_file.specs.Seen.{Knows}
use Rattle.memo_file.proofs.Loops.{with_front}
use Rattle.memo_file.proofs.pool.read_pool.Given as goal

abbrev pub invariant-loop : goal.invariant-loop
invariant-loop l =
    Knows l.seen (map arc_value l.pages.items)
    × (with_front (map arc_value l.pages.items)
    (chain pool_page_at (l.count - l.counter) (map arc_value l.pages.items) l.cursor) ≡ chain pool_page_at l.count
    [] l.fn.cursor)
