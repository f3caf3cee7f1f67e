-- What was read so far, and what is still to be read, is all.
use Rattle.std.proofs.Common.{◌≡◌, ◌-◌}
use Rattle.memo_spec.specs.Reader.{chain}
use Rattle.memo_spec.specs.Reading.{stored_page_at}
use Rattle.memo_file.proofs.Loops.{with_front}
use Rattle.memo_file.proofs.stored.stored_pages.Given as goal

abbrev pub invariant-loop : goal.invariant-loop
invariant-loop l =
    with_front l.pages.items (chain (stored_page_at l.slots) (l.count - l.counter) l.low l.cursor)
    ≡ chain (stored_page_at l.slots) l.count 0 l.fn.cursor
