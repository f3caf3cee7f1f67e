-- The pages so far are the same.
use Rattle.std.proofs.Common.{◌≡◌, take}
use Rattle.memo_reports.proofs.audit.same.are_same_deltas.Given as goal

abbrev pub invariant-loop-place : goal.invariant-loop-place
invariant-loop-place l = take l.place l.a ≡ take l.place l.b
