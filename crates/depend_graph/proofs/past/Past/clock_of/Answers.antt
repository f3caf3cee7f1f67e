-- The joined clock, with one more step of the thread, is that of the step.
use Rattle.std.proofs.Common.{◌≡◌, ◌<◌, ℕ, ◌+◌, eqb, cond, slice_index, sym, ap, ◌∙◌, subst, arith}
use Rattle.std.proofs.lemmas.List.{get_or_read}
use Rattle.guest_call.specs.declared.thread_number.TheConstants.{THREADS}
use Rattle.history_spec.specs.Facts.{Fact}
use Rattle.history_spec.specs.Before.{no_fact, before_at}
use Rattle.depend_graph.proofs.Joins.{join-few, ticked-counts, clock-of_join}
use Rattle.depend_graph.proofs.past.Past.clock_of.Goals as goal

pub tick-requires-clause-thread : goal.tick-requires-clause-thread
tick-requires-clause-thread c =
    let here =
    c.fact.view_is
    ∙ get_or_read c.args.facts.now c.args.n c.index-facts-n.result c.requires.in_range c.index-facts-n.is no_fact in
    subst (λ (f : Fact). f.thread < THREADS) (sym here) (c.requires.threads c.args.n no_fact c.requires.in_range)

pub tick-requires-clause-room : goal.tick-requires-clause-room
tick-requires-clause-room c =
    let here =
    c.fact.view_is
    ∙ get_or_read c.args.facts.now c.args.n c.index-facts-n.result c.requires.in_range c.index-facts-n.is no_fact in
    let known : c.fact.inside.thread < THREADS =
    subst (λ (f : Fact). f.thread < THREADS) (sym here) (c.requires.threads c.args.n no_fact c.requires.in_range) in
    let most = join-few c.args.facts.now (λ i. before_at c.args.facts.now i c.args.n) c.args.n c.joined-clock.result
    c.fact.inside.thread known c.joined-clock.ensures in
    omega arith

pub returns : goal.returns
returns c =
    let here =
    c.fact.view_is
    ∙ get_or_read c.args.facts.now c.args.n c.index-facts-n.result c.requires.in_range c.index-facts-n.is no_fact in
    let known : c.fact.inside.thread < THREADS =
    subst (λ (f : Fact). f.thread < THREADS) (sym here) (c.requires.threads c.args.n no_fact c.requires.in_range) in
    clock-of_join c.args.facts.now c.args.n c.joined-clock.result c.tick.new.self
    (subst (λ (t : ℕ). (u : ℕ) → u < THREADS
    → slice_index c.tick.new.self u ≡ cond (eqb t u) 1 0 + slice_index c.joined-clock.result u)
    (ap (λ (f : Fact). f.thread) here)
    (ticked-counts c.joined-clock.result c.tick.new.self c.fact.inside.thread c.tick.ensures.count known c.tick.ensures.more))
    c.joined-clock.ensures
