-- The invariants of the loops of `write_to_end`.
use Rattle.std.proofs.Common.{length, take, ◌-◌, ◌≤◌, ◌≡◌}
use Rattle.std.specs.Io.KnownBytes.{Appends}
use Rattle.ith_host.proofs.transfer.write_to_end.Given as goal

-- the bytes that were written come after what the sink held; there was no error
abbrev pub invariant-loop-done : goal.invariant-loop-done
invariant-loop-done g l =
    (l.done ≤ length l.bytes) × Appends (g.S.Write.contents l.fn.sink.inner) (g.S.Write.contents l.sink.inner)
    (take l.done l.bytes)
    × (l.sink.faults ≡ l.fn.sink.faults)

abbrev pub decreases-loop-done : goal.decreases-loop-done
decreases-loop-done g l = length l.bytes - l.done
