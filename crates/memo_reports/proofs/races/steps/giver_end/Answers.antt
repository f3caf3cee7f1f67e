-- The last step that was looked at gave the view, or is of the same thread.
use Rattle.std.proofs.Common.{◌≡◌, ◌-◌, ℕ, suc, true, false, List, ap, ap₂, sym, ◌∙◌, subst, arith}
use Rattle.std.proofs.lemmas.List.{get_or_read}
use Rattle.history_spec.specs.Facts.{Fact}
use Rattle.history_spec.specs.Before.{is_in, fact_at, no_fact}
use Rattle.memo_reports.proofs.Giving.{IsPassed, given-here, own-here}
use Rattle.memo_reports.proofs.races.steps.giver_end.Goals as goal

pub returns-then-has_thread-clause-end : goal.returns-then-has_thread-clause-end
returns-then-has_thread-clause-end c =
    let fs = c.args.facts.now in
    let i = c.args.i in
    let e = c.loop-end.end - 1 in
    let next : suc e ≡ c.loop-end.end = omega arith in
    let within = c.loop-end.invariant.within in
    let own =
    c.own.view_is ∙ get_or_read fs i c.index-facts-i.result c.requires c.index-facts-i.is no_fact in
    let here =
    c.fact.view_is ∙ get_or_read fs e c.index-facts-end.result (omega arith) c.index-facts-end.is no_fact in
    let given : is_in (fact_at fs i).thread (fact_at fs e).given ≡ true =
    ap₂ (λ (t : ℕ) (ts : List ℕ). is_in t ts) (sym (ap (λ (f : Fact). f.thread) own))
    (sym (ap (λ (f : Fact). f.given) here) ∙ sym c.deref.ensures.value)
    ∙ sym c.has_thread.ensures ∙ c.if-has_thread.true in
    sym next ∙ given-here fs i e (subst (IsPassed fs i) (sym next) c.loop-end.invariant) given

pub returns-then-fact-thread-clause-end : goal.returns-then-fact-thread-clause-end
returns-then-fact-thread-clause-end c =
    let fs = c.args.facts.now in
    let i = c.args.i in
    let e = c.loop-end.end - 1 in
    let next : suc e ≡ c.loop-end.end = omega arith in
    let within = c.loop-end.invariant.within in
    let own =
    c.own.view_is ∙ get_or_read fs i c.index-facts-i.result c.requires c.index-facts-i.is no_fact in
    let here =
    c.fact.view_is ∙ get_or_read fs e c.index-facts-end.result (omega arith) c.index-facts-end.is no_fact in
    let none : is_in (fact_at fs i).thread (fact_at fs e).given ≡ false =
    ap₂ (λ (t : ℕ) (ts : List ℕ). is_in t ts) (sym (ap (λ (f : Fact). f.thread) own))
    (sym (ap (λ (f : Fact). f.given) here) ∙ sym c.deref.ensures.value)
    ∙ sym c.has_thread.ensures ∙ c.if-has_thread.false in
    let same : (fact_at fs e).thread ≡ (fact_at fs i).thread =
    ap (λ (f : Fact). f.thread) (sym here) ∙ c.if-fact-thread.true ∙ ap (λ (f : Fact). f.thread) own in
    own-here fs i e (subst (IsPassed fs i) (sym next) c.loop-end.invariant) none same
