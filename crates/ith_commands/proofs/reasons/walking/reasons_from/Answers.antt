-- Answers to the goals that the check of `reasons_from` leaves open.
use Rattle.std.proofs.Common.{◌≡◌, length, map, ap, ◌∙◌, arith}
use Rattle.std.proofs.lemmas.List.{get_or-replicate}
use Rattle.round_report.specs.declared.why.reason.Reason.{Reason}
use Rattle.ith_commands.proofs.Steps.{first-before}
use Rattle.ith_commands.proofs.ReasonsSoFar.{reported_so_far, executed_so_far, reported-next, each-next, all-reported, reported-scratch}
use Rattle.ith_commands.proofs.reasons.walking.reasons_from.Goals as goal

pub loop-step-init : goal.loop-step-init
loop-step-init c = record {
  pages = c.requires.pages;
  before = first-before c.args.round.now c.args.core.now _ c.requires.first (λ t few. get_or-replicate 32 t 0 0 few);
  whole = c.requires.whole;
  reported = c.new-reasons.ensures.items;
  each = λ old. ap (map (λ (r : Reason). r.step)) c.new-reasons.ensures.items;
}

pub loop-step-preserved : goal.loop-step-preserved
loop-step-preserved c = record {
  pages = c.reason_at-reason.ensures.pages;
  before = c.in_ok-walk.ensures.before;
  whole = c.in_ok-walk.ensures.whole;
  reported =
      reported-next c.args.round.now c.loop-step.step c.loop-step.reasons.items c.add_reason.new.reasons.items
      c.reason_at-reason.result c.loop-step.invariant.reported c.in_ok-add_reason.ensures c.reason_at-reason.ensures.reason;
  each = λ old.
      each-next c.args.round.now c.loop-step.step c.loop-step.reasons.items c.add_reason.new.reasons.items
      c.reason_at-reason.result (c.loop-step.invariant.each old) c.in_ok-add_reason.ensures
      c.reason_at-reason.ensures.reason (c.reason_at-reason.ensures.each old);
}

pub returns-clause-reasons : goal.returns-clause-reasons
returns-clause-reasons c =
    let same : length c.schedule-step-end.result.now ≡ length c.args.round.now.schedule =
    ap length c.schedule-step-end.ensures.schedule in
    let end : c.loop-step.step ≡ length c.args.round.now.schedule = omega arith in
    all-reported c.args.round.now c.loop-step.reasons.items
    (c.loop-step.invariant.reported ∙ ap (reported_so_far c.args.round.now) end)

pub returns-clause-each : goal.returns-clause-each
returns-clause-each c =
    let same : length c.schedule-step-end.result.now ≡ length c.args.round.now.schedule =
    ap length c.schedule-step-end.ensures.schedule in
    let end : c.loop-step.step ≡ length c.args.round.now.schedule = omega arith in
    λ old. c.loop-step.invariant.each old ∙ ap (executed_so_far c.args.round.now) end

pub returns-clause-scratch : goal.returns-clause-scratch
returns-clause-scratch c =
    let same : length c.schedule-step-end.result.now ≡ length c.args.round.now.schedule =
    ap length c.schedule-step-end.ensures.schedule in
    let end : c.loop-step.step ≡ length c.args.round.now.schedule = omega arith in
    λ sound.
    reported-scratch c.args.round.now c.loop-step.reasons.items c.schedule-step-end.ensures.valid.setup c.schedule-step-end.ensures.valid.by_schedule sound
    (all-reported c.args.round.now c.loop-step.reasons.items
    (c.loop-step.invariant.reported ∙ ap (reported_so_far c.args.round.now) end))
