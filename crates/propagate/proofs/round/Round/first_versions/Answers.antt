-- Answers to the goals that the check of `Round::first_versions` leaves open.
use Rattle.std.proofs.Common.{◌≡◌, ◌≤◌, ℕ, ap, sym, subst, ◌∙◌, option_map, Option, Some, length, List}
use Rattle.std.specs.Arc.{arc_value}
use Rattle.history_spec.specs.History.{History, past_records}
use Rattle.round_spec.specs.Rounds.{RoundState}
use Rattle.known_pages.specs.declared.versions.StepVersions.{StepVersions}
use Rattle.propagate.specs.Consistency.{KnowsEnough, AreFactsOf}
use Rattle.known_pages.specs.Versions.{AreVersions, IsComparable, AreStepsOf, AreFresh}
use Rattle.known_pages.proofs.KnownPages.{versions-fresh}
use Rattle.propagate.proofs.round.Round.first_versions.Goals as goal

pub returns-in_ok-new-in-Some-Some : goal.returns-in_ok-new-in-Some-Some
returns-in_ok-new-in-Some-Some c = λ h is.
    let w = c.args.self.now in
    let v = c.in_ok-versions-in-Some-Some.versions in
    let past : w.past ≡ Some (arc_value c.in-Some-Some.history) =
    ap (λ (x : RoundState). x.past) (sym c.self.view_is) ∙ ap (option_map arc_value) c.in-Some-Some.is-0 in
    let both : Some h ≡ Some (arc_value c.in-Some-Some.history) = sym is ∙ past in
    let same : arc_value c.in-Some-Some.history ≡ h = cc in
    let like : IsComparable w h =
    subst (IsComparable w) (c.deref.ensures ∙ same) (c.can_find_versions.ensures c.if-can_find_versions.true) in
    let facts : AreFactsOf w.past c.in-Some-Some.graph =
    subst (λ (x : RoundState). AreFactsOf x.past c.in-Some-Some.graph) c.self.view_is
    (subst (KnowsEnough _ c.self.inside.marks) c.in-Some-Some.is-1 c.self.invariant.knows) in
    let few : length h.records ≤ 65536 =
    subst (λ (p : Option History). length (past_records p) ≤ 65536) is facts.of_run.few in
    let steps_is : c.deref-in-Some-Some.result.now ≡ h = c.deref-in-Some-Some.ensures ∙ same in
    let held : v.steps.items ≡ c.in_ok-steps-in-Some-Some.steps.items = c.in_ok-versions-in-Some-Some.ensures.steps in
    subst (AreVersions h w) (sym c.in_ok-new-in-Some-Some.ensures.ok)
    (versions-fresh h w v like
    (ap (λ (l : List StepVersions). length l) held ∙ c.in_ok-steps-in-Some-Some.ensures.count
    ∙ ap (λ (x : History). length x.records) steps_is)
    few
    (subst (AreStepsOf h) (sym held) (subst (λ (x : History). AreStepsOf x c.in_ok-steps-in-Some-Some.steps.items) steps_is
    c.in_ok-steps-in-Some-Some.ensures.steps))
    (subst (λ (n : ℕ). AreFresh n v) c.entries.ensures c.in_ok-versions-in-Some-Some.ensures.fresh))
