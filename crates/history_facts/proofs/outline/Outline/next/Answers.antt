-- Answers to the goals that the check of `Outline::next` leaves open.
use Rattle.std.proofs.Common.{◌≡◌, ap, ◌∙◌}
use Rattle.history_spec.specs.Facts as order
use Rattle.machine_spec.specs.Step as step
use Rattle.history_facts.specs.Outlining.{numbered}
use Rattle.history_facts.proofs.Outlining.{numbered-read, fact-is}
use Rattle.history_facts.proofs.outline.Outline.next.Goals as goal

pub returns-clause-says : goal.returns-clause-says
returns-clause-says c m applied last =
    let r = c.args.rec.now in
    let reads = order.reads_in c.args.records.now in
    let given : c.in_ok-given.given.items ≡ order.served_by m r =
    c.in_ok-given.ensures
    ∙ ap (λ t. order.served c.perform-done.result.effect t c.args.self.now.threads) c.thread.ensures
    ∙ c.perform-done.ensures.effect m applied c.args.self.now.threads
    ∙ ap (λ n. order.served (order.effect_of m r) r.thread n) applied.outline.threads in
    fact-is reads m r _ _ _ _ _ _ c.thread-2.ensures
    (c.perform-done.ensures.objects m applied) given c.in_ok-written.ensures
    (c.in_ok-opened.ensures
    ∙ ap (λ ts. numbered reads c.perform-done.new.self.numbers ts) (c.as_slice.ensures.value ∙ given)
    ∙ numbered-read reads (step.apply m r) c.perform-done.new.self.numbers (order.served_by m r)
    (c.perform-done.ensures.outline m applied).numbers)
    last
