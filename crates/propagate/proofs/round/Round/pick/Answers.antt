-- Answers to the goals that the check of `Round::pick` leaves open.
use Rattle.std.proofs.Common.{true, false, sym, subst, ◌∙◌}
use Rattle.machine_spec.specs.Setup.{IsSetup}
use Rattle.round_spec.proofs.Replay.{chosen-place}
use Rattle.propagate.proofs.Choosing.{pick-over, pick-stopped, pick-hold, pick-chosen, picked-run, hold-none_due}
use Rattle.propagate.proofs.round.Round.pick.Goals as goal

pub returns-then-is_finished-clause-pick : goal.returns-then-is_finished-clause-pick
returns-then-is_finished-clause-pick c = sym (pick-over c.args.self.now (sym c.is_finished.ensures.over ∙ c.if-is_finished.true))

pub returns-in-Some-clause-pick : goal.returns-in-Some-clause-pick
returns-in-Some-clause-pick c =
    sym (pick-chosen c.args.self.now c.in-Some.t true (sym c.is_finished.ensures.over ∙ c.if-is_finished.false)
    (sym c.choice.ensures ∙ c.in-Some.is)
    (sym c.can_reuse.ensures.can ∙ c.if-can_reuse.true))

pub returns-in-Some-2-clause-pick : goal.returns-in-Some-2-clause-pick
returns-in-Some-2-clause-pick c =
    sym (pick-chosen c.args.self.now c.in-Some.t false (sym c.is_finished.ensures.over ∙ c.if-is_finished.false)
    (sym c.choice.ensures ∙ c.in-Some.is)
    (sym c.can_reuse.ensures.can ∙ c.if-can_reuse.false))

pub returns-in-Some-2-clause-run : goal.returns-in-Some-2-clause-run
returns-in-Some-2-clause-run c = λ t same. picked-run c.args.self.now t (sym (returns-in-Some-2-clause-pick c) ∙ same)

pub returns-in-None-clause-pick : goal.returns-in-None-clause-pick
returns-in-None-clause-pick c =
    sym (pick-hold c.args.self.now (sym c.is_finished.ensures.over ∙ c.if-is_finished.false) (sym c.choice.ensures ∙ c.in-None.is))

pub returns-in-None-clause-holds : goal.returns-in-None-clause-holds
returns-in-None-clause-holds c = λ held t free.
    hold-none_due c.args.self.now t (sym (returns-in-None-clause-pick c) ∙ held) free

pub returns-in-Some-clause-stopped : goal.returns-in-Some-clause-stopped
returns-in-Some-clause-stopped c = λ stopped. returns-in-Some-clause-pick c ∙ pick-stopped c.args.self.now stopped

pub returns-in-Some-2-clause-stopped : goal.returns-in-Some-2-clause-stopped
returns-in-Some-2-clause-stopped c = λ stopped. returns-in-Some-2-clause-pick c ∙ pick-stopped c.args.self.now stopped

pub returns-in-None-clause-stopped : goal.returns-in-None-clause-stopped
returns-in-None-clause-stopped c = λ stopped. returns-in-None-clause-pick c ∙ pick-stopped c.args.self.now stopped

-- the step that is chosen while a history is replayed comes next there

pub returns-in-Some-clause-spares : goal.returns-in-Some-clause-spares
returns-in-Some-clause-spares c = λ h coherent replays.
    c.can_reuse.ensures.spares
    (record {
      history = h;
      coherent = coherent;
      reused = replays.reused;
      place =
          chosen-place h c.args.self.now c.in-Some.t
          (subst IsSetup replays.reused.setup c.is_finished.ensures.valid.setup) coherent replays
          (sym c.is_finished.ensures.over ∙ c.if-is_finished.false) (sym c.choice.ensures ∙ c.in-Some.is);
    })

pub returns-in-Some-2-clause-spares : goal.returns-in-Some-2-clause-spares
returns-in-Some-2-clause-spares c = λ h coherent replays.
    c.can_reuse.ensures.spares
    (record {
      history = h;
      coherent = coherent;
      reused = replays.reused;
      place =
          chosen-place h c.args.self.now c.in-Some.t
          (subst IsSetup replays.reused.setup c.is_finished.ensures.valid.setup) coherent replays
          (sym c.is_finished.ensures.over ∙ c.if-is_finished.false) (sym c.choice.ensures ∙ c.in-Some.is);
    })
