-- The records so far, and those still to be read, are all.
use Rattle.std.proofs.Common.{◌≡◌, ◌-◌, [], map, length}
use Rattle.std.specs.Arc.{arc_value}
use Rattle.memo_spec.specs.Reader.{chain}
use Rattle.memo_spec.specs.Reading.{record_at}
use Rattle.memo_file.specs.Growth.{state_of}
use Rattle.memo_file.proofs.Loops.{with_front}
use Rattle.memo_file.proofs.records.read_records.Given as goal

abbrev pub invariant-loop : goal.invariant-loop
invariant-loop l =
    (length l.growing.records ≡ l.counter)
    × (with_front l.growing.records (chain (record_at l.sources.slots.now l.sources.fuel
    (map arc_value l.sources.pool.now)) (l.entries - l.counter) (state_of l.growing) l.cursor)
    ≡ chain (record_at l.sources.slots.now l.sources.fuel (map arc_value l.sources.pool.now)) l.entries
    (record { earlier = []; used = 0 }) l.fn.cursor)
