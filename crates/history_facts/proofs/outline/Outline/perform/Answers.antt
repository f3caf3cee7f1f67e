-- Answers to the goals that the check of `Outline::perform` leaves open.
use Rattle.std.proofs.Common.{◌≡◌, ◌+◌, cond, set, get_or, is_some, refl, sym, ap, subst, ◌∙◌, arith}
use Rattle.guest_call.specs.Objects.{created_count}
use Rattle.machine_spec.specs.Step as step
use Rattle.history_spec.specs.Facts as order
use Rattle.history_facts.specs.declared.outline.Outline.{Outline}
use Rattle.history_facts.specs.Outlining.{IsOutlineOf}
use Rattle.history_facts.proofs.Outlining.{below-32, few-steps, few-threads, created-one, outline-more}
use Rattle.history_facts.proofs.outline.Outline.perform.Goals as goal

pub count-requires-clause-exists : goal.count-requires-clause-exists
count-requires-clause-exists c =
    let applied = c.requires.1 in
    let below = below-32 c.requires.0 c.args.rec.now applied.whole applied.can in
    omega arith

pub count-requires-clause-few : goal.count-requires-clause-few
count-requires-clause-few c =
    let m = c.requires.0 in
    let applied = c.requires.1 in
    let few = few-steps m c.args.rec.now applied.whole applied.can in
    let is =
    ap (λ (o : Outline). get_or o.numbers c.thread.result 0) (c.call-done.ensures.stays m applied)
    ∙ ap (λ t. get_or c.args.self.now.numbers t 0) c.thread.ensures
    ∙ applied.outline.numbers c.args.rec.now.thread in
    omega (arith, few, is)

pub count-requires-clause-room : goal.count-requires-clause-room
count-requires-clause-room c =
    let m = c.requires.0 in
    let applied = c.requires.1 in
    let few = few-threads m applied.whole in
    let is = ap (λ (o : Outline). o.threads) (c.call-done.ensures.stays m applied) ∙ applied.outline.threads in
    omega (arith, few, is)

pub returns-clause-outline : goal.returns-clause-outline
returns-clause-outline c m applied =
    let r = c.args.rec.now in
    let o = c.args.self.now in
    let threads : o.threads + cond c.is_some.result 1 0 ≡ o.threads + created_count (order.effect_of m r).created =
    ap (λ n. o.threads + n)
    (ap (λ b. cond b 1 0) (c.is_some.ensures ∙ ap is_some (c.created.ensures ∙ c.call-done.ensures.created m applied))
    ∙ created-one (order.effect_of m r).created) in
    subst (λ (x : Outline). IsOutlineOf (step.apply m r) x)
    (sym
    (c.count.ensures
    ∙ ap
    (λ (x : Outline).
    record x {
      threads = x.threads + cond c.is_some.result 1 0;
      numbers = set x.numbers c.thread.result (get_or x.numbers c.thread.result 0 + 1);
    })
    (c.call-done.ensures.stays m applied)))
    (outline-more m r o _ _ _ applied.outline applied.whole applied.can refl threads
    (ap (λ t. set o.numbers t (get_or o.numbers t 0 + 1)) c.thread.ensures))
