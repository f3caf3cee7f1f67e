-- Facts without their pages have the same threads.
use Rattle.std.proofs.Common.{◌≡◌, ◌<◌, List, length, map, get_or, ap, sym, ◌∙◌, subst, arith}
use Rattle.std.proofs.lemmas.List.{take_all, length-map, get_or-map}
use Rattle.history_spec.specs.Facts.{Fact}
use Rattle.history_spec.specs.Before.{no_fact}
use Rattle.round_spec.specs.Sync.{sync_fact}
use Rattle.depend_graph.proofs.graph.Graph.of_sync.Goals as goal

pub of-requires-clause-threads : goal.of-requires-clause-threads
of-requires-clause-threads c = λ k d less.
    let fs = c.args.facts.now in
    let whole : c.loop-fact.synced.items ≡ map sync_fact fs =
    c.loop-fact.invariant ∙ ap (map sync_fact) (take_all c.loop-fact.fact-index fs (omega arith)) in
    let many = length-map fs sync_fact in
    let few : length c.loop-fact.synced.items ≡ length (map sync_fact fs) = ap (λ (xs : List Fact). length xs) whole in
    let below : k < length fs = omega arith in
    subst (λ (xs : List Fact). (get_or xs k d).thread < 32) (sym whole)
    (subst (λ (f : Fact). f.thread < 32) (sym (get_or-map sync_fact fs k no_fact d below))
    (c.requires.threads k no_fact below))
