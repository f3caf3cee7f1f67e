-- The pages so far have no access.
use Rattle.std.proofs.Common.{◌≡◌, [], All, length}
use Rattle.memo_reports.specs.declared.races.past.PagePast.{PagePast}
use Rattle.memo_reports.proofs.races.finding.none_past.Given as goal

abbrev pub invariant-loop-page : goal.invariant-loop-page
invariant-loop-page l = record {
  count : length l.past.items ≡ l._page;
  none : All (λ (p : PagePast). p.threads.items ≡ []) l.past.items;
}
