-- Each step between the places was looked at.
use Rattle.std.proofs.Common.{◌≡◌, ◌+◌, ◌||◌, false, true, not, eqb, leb, sym, ap, refl, ◌∙◌, arith}
use Rattle.std.proofs.lemmas.List.{get_or_read}
use Rattle.std.proofs.lemmas.Bool.{eq-eqb, le-leb, lt-leb}
use Rattle.history_spec.specs.Facts.{Fact}
use Rattle.history_spec.specs.Before.{no_fact, fact_at}
use Rattle.depend_graph.proofs.Passing.{all-true, not-all}
use Rattle.depend_graph.proofs.before.is_next.Goals as goal

pub loop-k-init : goal.loop-k-init
loop-k-init c =
    all-true (λ k. leb k c.args.i || not (eqb (fact_at c.args.facts.now k).thread c.args.t)) (c.args.i + 1)
    (λ k low. let within : leb k c.args.i ≡ true = le-leb k c.args.i (omega arith) in rw within refl)

pub returns-then-fact-t : goal.returns-then-fact-t
returns-then-fact-t c =
    let here =
    c.fact.view_is
    ∙ get_or_read c.args.facts.now c.loop-k.k c.index-facts-k.result (omega arith) c.index-facts-k.is no_fact in
    let same : (fact_at c.args.facts.now c.loop-k.k).thread ≡ c.args.t =
    ap (λ (f : Fact). f.thread) (sym here) ∙ c.if-fact-t.true in
    let later : leb c.loop-k.k c.args.i ≡ false = lt-leb c.loop-k.k c.args.i (omega arith) in
    let own : eqb (fact_at c.args.facts.now c.loop-k.k).thread c.args.t ≡ true =
    eq-eqb (fact_at c.args.facts.now c.loop-k.k).thread c.args.t same in
    sym (not-all (λ k. leb k c.args.i || not (eqb (fact_at c.args.facts.now k).thread c.args.t)) c.args.j c.loop-k.k
    (omega arith) (rw (later, own) refl))
