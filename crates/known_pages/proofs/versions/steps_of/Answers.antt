-- Answers to the goals that the check of `steps_of` leaves open.
use Rattle.std.proofs.Common.{◌≡◌, ◌+◌, ℕ, List, Some, length, replicate, ap, sym, subst, ◌∙◌, arith}
use Rattle.std.proofs.lemmas.List.{length_push}
use Rattle.std.specs.Arc.{arc_value}
use Rattle.std.specs.List.{slice_get}
use Rattle.thunk_spec.specs.Record.{Record}
use Rattle.history_spec.specs.Facts.{Fact, facts, served_by, written_slots}
use Rattle.release_core.specs.Applying.{machine_at}
use Rattle.round_spec.proofs.Placed.{facts-length}
use Rattle.known_pages.specs.declared.versions.StepVersions.{StepVersions}
use Rattle.known_pages.specs.Versions.{with_each, AreStepsOf, IsStepOf}
use Rattle.known_pages.proofs.Passing.{ArePassed, passed-start, passed-more, step-of, no-steps, steps-more, facts-given}
use Rattle.known_pages.proofs.versions.steps_of.Goals as goal

pub loop-place-init : goal.loop-place-init
loop-place-init c =
    let h = c.args.history.now in
    record {
      passed =
          subst (λ (l : List ℕ). ArePassed h 0 l c.in_ok-times.times.viewed) (sym c.in_ok-times.ensures.written)
          (subst (λ (l : List ℕ). ArePassed h 0 (replicate c.args.pages 0) l) (sym c.in_ok-times.ensures.viewed)
          (passed-start h c.args.pages));
      steps = subst (AreStepsOf h) (sym c.in_ok-steps.ensures.items) (no-steps h);
      count = ap (λ (l : List StepVersions). length l) c.in_ok-steps.ensures.items;
    }

pub fact-requires : goal.fact-requires
fact-requires c =
    omega (
      arith,
      c.loop-place-test.true,
      c.len-place-end.ensures.count,
      ap (λ (l : List Record). length l) c.records-records.ensures.records,
      facts-length c.args.history.now,
      ap (λ (l : List Fact). length l) c.requires.graph,
    )

pub loop-place-preserved : goal.loop-place-preserved
loop-place-preserved c =
    let h = c.args.history.now in
    let k = c.loop-place.place in
    let r : Record = arc_value c.at-rec.result.now in
    let s = c.in_ok-step_versions.field-0 in
    let at : slice_get h.records k ≡ Some r =
    ap (λ (l : List Record). slice_get l k) (sym c.records-records.ensures.records) ∙ c.at-rec.ensures in
    let there : slice_get (facts h) k ≡ Some c.fact.result.now =
    ap (λ (l : List Fact). slice_get l k) (sym c.requires.graph) ∙ c.fact.ensures in
    let given : c.as_slice.result.now ≡ served_by (machine_at h k) r =
    c.as_slice.ensures.value ∙ ap (λ (f : Fact). f.given) c.behind-graph.view_is
    ∙ facts-given h k r c.fact.result.now c.requires.coherent at there in
    let step : IsStepOf h k r s =
    step-of h k r c.loop-place.times.written.items c.loop-place.times.viewed s c.requires.coherent at
    c.loop-place.invariant.passed
    (rw (← c.deref.ensures) c.in_ok-step_versions.ensures.read)
    (rw (← c.deref.ensures) c.in_ok-step_versions.ensures.written) in
    record {
      passed =
          subst (λ (l : List ℕ). ArePassed h (k + 1) l c.give.new.self.viewed)
          (sym
          (c.give.ensures.written ∙ c.write.ensures.written
          ∙ ap (λ (q : Record). with_each c.loop-place.times.written.items (written_slots q) (k + 1))
          c.deref-in-loop-place.ensures))
          (subst
          (λ (l : List ℕ). ArePassed h (k + 1) (with_each c.loop-place.times.written.items (written_slots r) (k + 1)) l)
          (sym
          (c.give.ensures.viewed ∙ ap (λ (l : List ℕ). with_each l c.as_slice.result.now (k + 1)) c.write.ensures.viewed))
          (passed-more h k r c.loop-place.times.written.items c.loop-place.times.viewed c.as_slice.result.now c.requires.valid
          c.requires.coherent at given c.loop-place.invariant.passed));
      steps =
          subst (AreStepsOf h) (sym c.in_ok-push.ensures.items)
          (steps-more h k r c.loop-place.steps.items s c.loop-place.invariant.steps c.loop-place.invariant.count at step);
      count =
          ap (λ (l : List StepVersions). length l) c.in_ok-push.ensures.items
          ∙ length_push c.loop-place.steps.items s ∙ ap (λ (n : ℕ). n + 1) c.loop-place.invariant.count;
    }
