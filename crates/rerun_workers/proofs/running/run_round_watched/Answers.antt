-- Answers to the goals that the check of `run_round_watched` leaves open.
use Rattle.std.proofs.Common.{◌≡◌, ℕ, [], ◌∷◌, length, Result, Ok, Err, IfOk, Vec, option_map, is_some, refl, ap, sym, subst, ◌∙◌, arith, rules}
use Rattle.std.specs.Arc.{arc_value}
use Rattle.std.specs.Global.{Global}
use Rattle.round_spec.specs.Watching.{IsProgress}
use Rattle.propagate.specs.Executing.{IsCostOf}
use Rattle.rerun_workers.specs.declared.board.ClosedRound.{ClosedRound}
use Rattle.rerun_workers.specs.Making.{IsRoundBy, ComparesNone}
use Rattle.rerun_workers.proofs.Made.{of-same, closed-own, closed-opening, by-several, cost-several}
use Rattle.rerun_workers.proofs.running.run_round_watched.Goals as goal

-- what is true of a round is true of it beside its last number
beside :
    {A B E : Type 0} (r : Result (A × B) E) (a : A) (P : A → Type 0) → IfOk r (λ x. x.0 ≡ a) → P a → IfOk r (λ x. P x.0)
beside (Ok x) a P same says = subst P (sym same) says
beside (Err e) a P same says = tt

last-progress :
    {E : Type 0} (workers : ℕ) (r : Result (ClosedRound × Vec ℕ Global) E) (worked : ClosedRound)
    → IfOk r (λ x. x.0 ≡ worked) → IfOk r (λ x. x.1.items ≡ length worked.round.schedule ∷ [])
    → IfOk r (λ x. IsProgress workers (length x.0.round.schedule) x.1.items)
last-progress workers (Ok x) worked same last =
    rw (same, last) record { ascends = search rules; few = search rules; last = refl; alone = λ one. refl }
last-progress workers (Err e) worked same last = tt

pub run_by_first-requires : goal.run_by_first-requires
run_by_first-requires g c =
    record {
      some = c.requires;
      unused = λ one. c.new.ensures.turns;
      idle = λ h past unedited. c.new.ensures.turns;
      spares = λ h past repeats. c.new.ensures.compared;
    }

pub returns-then-workers-eq1 : goal.returns-then-workers-eq1
returns-then-workers-eq1 g c =
    let past = option_map arc_value c.args.past in
    let alone = c.in_ok-alone.alone in
    let same = c.with_last.ensures.same in
    record {
      round =
          beside c.with_last.result alone
          (λ (r : ClosedRound). IsRoundBy c.args.workers c.args.setup past r.round r.worker_steps.items) same
          c.in_ok-alone.ensures.round;
      cost =
          beside c.with_last.result alone (λ (r : ClosedRound). IsCostOf c.args.workers c.args.setup past r.round r.effort.turns)
          same c.in_ok-alone.ensures.cost;
      spares =
          beside c.with_last.result alone (λ (r : ClosedRound). ComparesNone c.args.setup past r.effort.compared) same
          c.in_ok-alone.ensures.spares;
      progress = last-progress c.args.workers c.with_last.result alone same c.with_last.ensures.last;
    }

pub returns-then-is_some-clause-round : goal.returns-then-is_some-clause-round
returns-then-is_some-clause-round g c =
    let worked = c.in_ok-worked.worked in
    by-several c.args.workers c.args.setup (option_map arc_value c.args.past) worked.round worked.worker_steps.items worked.effort.turns
    worked.effort.compared
    (let some = c.requires in let several = c.if-workers-eq1.false in omega (arith, some, several))
    c.end.ensures.valid.setup
    (closed-opening worked.round worked.worker_steps.items worked.effort.turns worked.effort.compared c.args.setup (option_map arc_value c.args.past)
    c.in_ok-watched.watched.round c.in_ok-watched.ensures.round c.in_ok-worked.ensures.closed)
    c.end.ensures.valid.by_schedule
    (ap is_some (sym c.end.ensures.ending) ∙ sym c.is_some.ensures ∙ c.if-is_some.true)
    c.in_ok-worked.ensures.each

pub returns-then-is_some-clause-cost : goal.returns-then-is_some-clause-cost
returns-then-is_some-clause-cost g c =
    let worked = c.in_ok-worked.worked in
    cost-several c.args.workers worked.effort.turns worked.effort.compared c.args.setup (option_map arc_value c.args.past) worked.round worked.worker_steps.items
    (let some = c.requires in let several = c.if-workers-eq1.false in omega (arith, some, several))
    (closed-opening worked.round worked.worker_steps.items worked.effort.turns worked.effort.compared c.args.setup (option_map arc_value c.args.past)
    c.in_ok-watched.watched.round c.in_ok-watched.ensures.round c.in_ok-worked.ensures.closed)

pub returns-then-is_some-clause-progress : goal.returns-then-is_some-clause-progress
returns-then-is_some-clause-progress g c =
    record {
      ascends = c.in_ok-worked.ensures.ascends;
      few = c.in_ok-worked.ensures.few;
      last = c.in_ok-worked.ensures.last;
      alone = λ one. absurd (c.if-workers-eq1.false one);
    }

pub returns-then-is_some-clause-spares : goal.returns-then-is_some-clause-spares
returns-then-is_some-clause-spares g c =
    let worked = c.in_ok-worked.worked in
    (closed-opening worked.round worked.worker_steps.items worked.effort.turns worked.effort.compared c.args.setup
    (option_map arc_value c.args.past) c.in_ok-watched.watched.round c.in_ok-watched.ensures.round
    c.in_ok-worked.ensures.closed).spares

pub run_anew-requires : goal.run_anew-requires
run_anew-requires g c =
    let worked = c.in_ok-worked.worked in
    let own =
    closed-own worked.round worked.worker_steps.items worked.effort.turns worked.effort.compared
    c.in_ok-watched.watched.round.setup c.in_ok-watched.watched.round.past c.in_ok-worked.ensures.closed in
    record {
      several = let some = c.requires in let several = c.if-workers-eq1.false in omega (arith, some, several);
      idle = own.idle;
      spares = own.spares;
    }

pub returns : goal.returns
returns g c =
    let past = option_map arc_value c.args.past in
    let worked = c.in_ok-worked.worked in
    let anew = c.in_ok-anew.anew in
    let same = c.with_last-2.ensures.same in
    let closed =
    closed-opening worked.round worked.worker_steps.items worked.effort.turns worked.effort.compared c.args.setup past
    c.in_ok-watched.watched.round c.in_ok-watched.ensures.round c.in_ok-worked.ensures.closed in
    record {
      round =
          beside c.with_last-2.result anew
          (λ (r : ClosedRound). IsRoundBy c.args.workers c.args.setup past r.round r.worker_steps.items) same
          (of-same (λ s p. IsRoundBy c.args.workers s p anew.round anew.worker_steps.items) _ _ _ _ closed.setup closed.past
          c.in_ok-anew.ensures.round);
      cost =
          beside c.with_last-2.result anew
          (λ (r : ClosedRound). IsCostOf c.args.workers c.args.setup past r.round r.effort.turns) same
          (of-same (λ s p. IsCostOf c.args.workers s p anew.round anew.effort.turns) _ _ _ _ closed.setup closed.past
          c.in_ok-anew.ensures.cost);
      spares =
          beside c.with_last-2.result anew (λ (r : ClosedRound). ComparesNone c.args.setup past r.effort.compared) same
          (of-same (λ s p. ComparesNone s p anew.effort.compared) _ _ _ _ closed.setup closed.past
          c.in_ok-anew.ensures.spares);
      progress = last-progress c.args.workers c.with_last-2.result anew same c.with_last-2.ensures.last;
    }
