-- Answers to the goals that the check of `run_alone_shown` leaves open.
use Rattle.std.proofs.Common.{◌≡◌, ap, ap₂, sym, subst, ◌∙◌, arith}
use Rattle.std.proofs.Math.Nat.{le_refl}
use Rattle.std.proofs.lemmas.Result.{IfOk-from_err}
use Rattle.round_spec.specs.Alone.{after_picks}
use Rattle.round_spec.specs.Replaying.{IsReplaying}
use Rattle.round_spec.specs.Rounds.{opening}
use Rattle.round_spec.proofs.Replay.{replays-start}
use Rattle.propagate.specs.Executing.{executed_by}
use Rattle.propagate.proofs.alone.run_alone_shown.Goals as goal

pub returns-in_err-round : goal.returns-in_err-round
returns-in_err-round g c =
    let failed = c.from_residual.ensures.0 in
    record {
      alone = IfOk-from_err c.from_residual.result _ failed;
      sound = IfOk-from_err c.from_residual.result _ failed;
      cost = IfOk-from_err c.from_residual.result _ failed;
      never_lower = le_refl c.args.turns.now;
      spares = IfOk-from_err c.from_residual.result _ failed;
      compares = le_refl c.args.compared.now;
    }

pub returns-in_err-follow_picks : goal.returns-in_err-follow_picks
returns-in_err-follow_picks g c =
    let failed = c.from_residual-in_err-follow_picks.ensures.0 in
    record {
      alone = IfOk-from_err c.from_residual-in_err-follow_picks.result _ failed;
      sound = IfOk-from_err c.from_residual-in_err-follow_picks.result _ failed;
      cost = IfOk-from_err c.from_residual-in_err-follow_picks.result _ failed;
      never_lower = c.follow_picks.ensures.never_lower;
      spares = IfOk-from_err c.from_residual-in_err-follow_picks.result _ failed;
      compares = c.follow_picks.ensures.compares;
    }

pub returns : goal.returns
returns g c =
    let begun = c.in_ok-round.ensures.round in
    let picks = c.in_ok-follow_picks.ensures in
    let none : executed_by c.in_ok-round.round ≡ 0 = ap executed_by begun in
    record {
      alone = picks.followed ∙ ap₂ after_picks c.steps-limit.ensures.value begun;
      sound = c.in_ok-round.ensures.sound;
      cost = omega (arith, picks.cost, none);
      never_lower = c.follow_picks.ensures.never_lower;
      spares = λ h there repeats.
          let start : IsReplaying h c.in_ok-round.round =
          subst (IsReplaying h) (sym (begun ∙ ap₂ opening (sym repeats.same) there)) (replays-start h) in
          (picks.spares h repeats.coherent start).1;
      compares = c.follow_picks.ensures.compares;
    }
