-- The number of workers falls each time.
use Rattle.memo_reports.proofs.audit.executing.+audit_together+fn-audit_together-join+arg2+fn-audit_together-join+arg3.Given as goal

abbrev pub decreases-audit_together : goal.decreases-audit_together
decreases-audit_together g l = l.workers

abbrev pub decreases-join+arg2 : goal.decreases-join+arg2
decreases-join+arg2 g l = l.some

abbrev pub decreases-join+arg3 : goal.decreases-join+arg3
decreases-join+arg3 g l = l.others
