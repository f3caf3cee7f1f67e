-- What was read so far, and what is still to be read, is all.
use Rattle.std.proofs.Common.{◌≡◌, ◌-◌, map}
use Rattle.std.specs.Arc.{arc_value}
use Rattle.memo_spec.specs.Reader.{chain}
use Rattle.memo_spec.specs.Reading.{read_page_at}
use Rattle.memo_file.proofs.Loops.{with_front}
use Rattle.memo_file.proofs.pages.read_pages.Given as goal

abbrev pub invariant-loop : goal.invariant-loop
invariant-loop l =
    with_front l.pages.items (chain (read_page_at l.sources.slots.now (map arc_value l.sources.pool.now))
    (l.count - l.counter) (record { low = l.low; used = l.used }) l.cursor)
    ≡ chain (read_page_at l.sources.slots.now (map arc_value l.sources.pool.now)) l.count
    (record { low = 0; used = l.fn.used }) l.fn.cursor
