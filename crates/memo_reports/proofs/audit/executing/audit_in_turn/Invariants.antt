-- What was found in the claims so far.
use Rattle.std.proofs.Common.{take}
use Rattle.memo_reports.specs.Claims.{IsFoundIn}
use Rattle.memo_reports.proofs.audit.executing.audit_in_turn.Given as goal

abbrev pub invariant-loop-place : goal.invariant-loop-place
invariant-loop-place g l = IsFoundIn (take l.place l.claims) l.found
