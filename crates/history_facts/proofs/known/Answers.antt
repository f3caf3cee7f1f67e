-- Answers to the goals that the check of `known` leaves open.
use Rattle.std.proofs.Common.{◌≡◌, ◌+◌, true, Some, eqb, List, length, refl, sym, ap, subst, ◌∙◌, arith}
use Rattle.std.specs.List.{slice_get}
use Rattle.thunk_spec.specs.Record.{Record}
use Rattle.machine_spec.specs.Setup.{IsSetup}
use Rattle.machine_spec.specs.Machine.{Machine}
use Rattle.history_spec.specs.Facts as order
use Rattle.release_core.specs.Applying.{machine_at}
use Rattle.history_facts.specs.Outlining.{IsOutlineOf}
use Rattle.history_facts.proofs.PendingFacts.{follows-applied, all-came}
use Rattle.release_core.proofs.Histories.{machine-more, coherent-can}
use Rattle.history_facts.proofs.Outlining.{coherent-applied, coherent-last}
use Rattle.history_facts.proofs.known.Goals as goal

pub next-requires : goal.next-requires
next-requires c =
    let h = c.args.history.now in
    let at : slice_get h.records c.loop-place.place ≡ Some c.deref.result.now =
    ap (λ rs. slice_get rs c.loop-place.place) (sym c.records-records.ensures.records) ∙ c.at.ensures
    ∙ ap (λ (r : Record). Some r) (sym c.deref.ensures) in
    let applied =
    coherent-applied h c.loop-place.place c.deref.result.now c.loop-place.outline
    (subst IsSetup c.setup.ensures.setup c.in_ok-outline.ensures.sound) c.requires at c.loop-place.invariant.outline in
    (machine_at h c.loop-place.place, applied)

pub loop-place-preserved : goal.loop-place-preserved
loop-place-preserved c =
    let h = c.args.history.now in
    let m = machine_at h c.loop-place.place in
    let r = c.deref.result.now in
    let at : slice_get h.records c.loop-place.place ≡ Some r =
    ap (λ rs. slice_get rs c.loop-place.place) (sym c.records-records.ensures.records) ∙ c.at.ensures
    ∙ ap (λ (x : Record). Some x) (sym c.deref.ensures) in
    let applied =
    coherent-applied h c.loop-place.place r c.loop-place.outline (subst IsSetup c.setup.ensures.setup c.in_ok-outline.ensures.sound)
    c.requires at c.loop-place.invariant.outline in
    let last =
    ap (λ n. eqb (c.loop-place.place + 1) n)
    (c.len-in-loop-place.ensures.count ∙ ap (λ (rs : List Record). length rs) c.records-records.ensures.records)
    ∙ coherent-last h c.loop-place.place r c.requires at in
    let more = machine-more h c.loop-place.place r at in
    record {
      come =
          follows-applied (order.reads_in c.records-records.result.now) c.records-records.result.now c.loop-place.place
          m (machine_at h (c.loop-place.place + 1)) r true true
          c.loop-place.facts.items c.push.new.self.items _ _
          (record {
            at_place = c.at.ensures ∙ ap (λ (x : Record). Some x) (sym c.deref.ensures);
            fits = sym (coherent-can h c.loop-place.place r c.requires at);
            more = c.in_ok-push.ensures.items;
          })
          refl (c.in_ok-fact.ensures.says m applied last) more c.loop-place.invariant.come;
      outline = subst (λ (n : Machine). IsOutlineOf n c.next.new.self) (sym more) (c.in_ok-fact.ensures.outline m applied);
    }

pub returns-clause-facts : goal.returns-clause-facts
returns-clause-facts c =
    all-came true (order.reads_in c.records-records.result.now) (machine_at c.args.history.now c.loop-place.place)
    c.records-records.result.now c.loop-place.place c.loop-place.facts.items (order.facts c.args.history.now)
    (let end = c.len-place-end.ensures.count in omega arith)
    c.loop-place.invariant.come
