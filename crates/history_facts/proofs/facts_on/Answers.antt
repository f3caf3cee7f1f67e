-- Answers to the goals that the check of `facts_on` leaves open.
use Rattle.std.proofs.Common.{◌+◌, drop, refl, ap, subst, ◌∙◌, arith}
use Rattle.std.specs.Prelude.{◌&&◌, cond}
use Rattle.std.specs.Arc.{arc_value}
use Rattle.machine_spec.specs.Step as step
use Rattle.release_core.specs.Applying.{can_apply}
use Rattle.history_spec.specs.Facts as order
use Rattle.history_facts.proofs.PendingFacts.{follows, all-came, AreLeft, rest-of, left-more}
use Rattle.history_facts.proofs.facts_on.Goals as goal

pub loop-place-init : goal.loop-place-init
loop-place-init c = record { come = rw c.in_ok-facts.ensures.items refl; left = record { can = refl; applied = λ all. refl } }

pub loop-place-preserved : goal.loop-place-preserved
loop-place-preserved c =
    let reads = order.reads_in c.args.records.now in
    let m = c.loop-place.replay in
    let fits = c.next_fact.new.fits in
    let same = c.deref.ensures in
    let r = arc_value c.at.result.now in
    let is_fits = c.in_ok-fact.ensures.fits ∙ ap (λ x. c.loop-place.fits && can_apply m x) same in
    let is_next = c.in_ok-fact.ensures.applied ∙ ap (λ x. cond fits (step.apply m x) m) same in
    record {
      come =
          follows reads c.args.records.now c.loop-place.place m c.next_fact.new.replay r
          c.loop-place.fits fits c.loop-place.facts.items c.push.new.self.items _ c.in_ok-fact.fact
          (record { at_place = c.at.ensures; fits = is_fits; more = c.in_ok-push.ensures.items })
          (c.in_ok-fact.ensures.says ∙ ap (λ x. cond fits (order.fact_of reads m x) (order.bare_fact x)) same)
          is_next
          c.loop-place.invariant.come;
      left =
          left-more c.args.replay.now m c.next_fact.new.replay c.args.records.now
          (drop (c.loop-place.place + 1) c.args.records.now) r c.loop-place.fits fits is_fits is_next
          (subst (AreLeft c.args.replay.now c.args.records.now c.loop-place.fits m)
          (rest-of c.args.records.now c.loop-place.place r c.at.ensures) c.loop-place.invariant.left);
    }

pub returns-clause-facts : goal.returns-clause-facts
returns-clause-facts c =
    all-came c.loop-place.fits (order.reads_in c.args.records.now) c.loop-place.replay
    c.args.records.now c.loop-place.place c.loop-place.facts.items _
    (let end = c.len-place-end.ensures.count in omega arith)
    c.loop-place.invariant.come
