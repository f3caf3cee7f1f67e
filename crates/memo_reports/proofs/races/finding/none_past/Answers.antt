-- One more page without an access.
use Rattle.std.proofs.Common.{◌≡◌, ◌+◌, ℕ, List, [], All, length, sym, ap, ◌∙◌, subst}
use Rattle.std.proofs.lemmas.List.{length_push}
use Rattle.std.proofs.lemmas.List.Elements.{All-push}
use Rattle.memo_reports.specs.declared.races.past.PagePast.{PagePast}
use Rattle.memo_reports.proofs.races.finding.none_past.Goals as goal

pub loop-page-preserved : goal.loop-page-preserved
loop-page-preserved c = record {
  count =
      ap (λ (ps : List PagePast). length ps) c.in_ok-push.ensures.items
      ∙ length_push c.loop-page.past.items c.new.result
      ∙ ap (λ (n : ℕ). n + 1) c.loop-page.invariant.count;
  none =
      subst (All (λ (p : PagePast). p.threads.items ≡ [])) (sym c.in_ok-push.ensures.items)
      (All-push (λ (p : PagePast). p.threads.items ≡ []) c.loop-page.past.items c.new.result
      c.loop-page.invariant.none c.new.ensures);
}
