-- The records so far have claims, and were applied.
use Rattle.std.proofs.Common.{◌≡◌, ◌+◌, drop, length}
use Rattle.memo_reports.specs.Claims.{AreClaims}
use Rattle.memo_reports.proofs.audit.claims.claims_from.Given as goal

abbrev pub invariant-loop-place : goal.invariant-loop-place
invariant-loop-place l =
    (l.from + length l.claims.items ≡ l.place)
    × AreClaims l.initial.core (drop l.from l.records) l.claims.items l.core
