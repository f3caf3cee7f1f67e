-- The invariants of the loops of `read_to_limit`.
use Rattle.std.proofs.Common.{length, ◌-◌, ◌≤◌, ◌≡◌}
use Rattle.std.specs.Io.KnownBytes.{Consumes}
use Rattle.ith_host.proofs.transfer.read_to_limit.Given as goal

-- what was taken so far is within the limit, and is in the vector; there was no error
abbrev pub invariant-loop-count : goal.invariant-loop-count
invariant-loop-count g l =
    (length l.into.items ≤ l.limit)
    × Consumes (g.S.Read.remaining l.fn.source.inner) (g.S.Read.remaining l.source.inner) l.into.items
    × (l.source.faults ≡ l.fn.source.faults)

abbrev pub decreases-loop-count : goal.decreases-loop-count
decreases-loop-count g l = l.limit - length l.into.items
