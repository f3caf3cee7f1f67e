-- Answers to the goals that the check of `replay` leaves open.
use Rattle.std.proofs.Common.{◌≡◌, ◌<◌, suc, true, length, take, get_or, refl, ap, sym, ◌∙◌, arith}
use Rattle.machine_spec.specs.Machine.{Machine}
use Rattle.machine_spec.specs.Schedule.{scratch_from}
use Rattle.machine_spec.specs.Setup.{first}
use Rattle.machine_spec.specs.Step.{step, can_step}
use Rattle.plain_machine.specs.Making.{thunk_of}
use Rattle.plain_machine.proofs.Schedules.{scratch-more, permitted-more, turns-more, step-steps}
use Rattle.plain_machine.proofs.replaying.replay.Goals as goal

pub loop-i-init : goal.loop-i-init
unfolding first
loop-i-init c =
    record {
      machine = c.in_ok-machine.ensures;
      permitted = refl;
      instructions = refl;
      counter = omega arith;
      steps = ap (λ (m : Machine). m.steps) c.in_ok-machine.ensures;
      few = omega arith;
    }

pub loop-i-preserved : goal.loop-i-preserved
loop-i-preserved c =
    let m : Machine = first c.args.setup.now in
    let all = c.args.schedule.now in
    let i = c.loop-i.i in
    let t = get_or all i 0 in
    let below : i < length all = omega arith in
    let before : c.loop-i.machine ≡ scratch_from m (take i all) = c.loop-i.invariant.machine in
    let may : can_step (scratch_from m (take i all)) t ≡ true =
    ap (λ (x : Machine). can_step x t) (sym before) ∙ sym c.if-not-can_step.ensures.can in
    let count : c.from-instructions.result ≡ (thunk_of (scratch_from m (take i all)) t).count =
    c.from-instructions.ensures ∙ c.in_ok-next.ensures.made.count
    ∙ ap (λ (x : Machine). (thunk_of x t).count) before in
    let more = turns-more m all i below in
    let steps : c.in_ok-next.next.steps ≡ suc c.loop-i.machine.steps =
    ap (λ (x : Machine). x.steps) c.in_ok-next.ensures.machine ∙ step-steps c.loop-i.machine t in
    record {
      machine = c.in_ok-next.ensures.machine ∙ ap (λ (x : Machine). step x t) before
          ∙ sym (scratch-more m all i below);
      permitted = permitted-more m all i below c.loop-i.invariant.permitted may;
      instructions = omega (arith, count, more, c.loop-i.invariant.instructions);
      counter = omega (
        arith,
        c.in_ok-next.ensures.cost,
        c.loop-i.invariant.counter,
        c.from-instructions.ensures,
      );
      steps = omega (arith, steps, c.loop-i.invariant.steps);
      few = omega (
        arith,
        steps,
        c.loop-i.invariant.few,
        c.from-instructions.ensures,
        c.in_ok-next.ensures.most,
        c.can_step.ensures.whole.limits.most_fuel,
      );
    }
