-- No step that was passed is of the thread, and none of them gave the view.
use Rattle.memo_reports.proofs.Giving.{IsPassed}
use Rattle.memo_reports.proofs.races.steps.giver_end.Given as goal

abbrev pub invariant-loop-end : goal.invariant-loop-end
invariant-loop-end l = IsPassed l.facts l.i l.end

abbrev pub decreases-loop-end : goal.decreases-loop-end
decreases-loop-end l = l.end
