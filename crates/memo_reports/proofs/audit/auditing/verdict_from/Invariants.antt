-- What was found in the records so far.
use Rattle.std.proofs.Common.{◌-◌, length}
use Rattle.memo_reports.proofs.Audited.{IsAuditedTo}
use Rattle.memo_reports.proofs.audit.auditing.verdict_from.Given as goal

abbrev pub invariant-loop-place : goal.invariant-loop-place
invariant-loop-place g l = IsAuditedTo l.fn.core l.records l.place l.core l.found

abbrev pub decreases-loop-place : goal.decreases-loop-place
decreases-loop-place g l = length l.records - l.place
