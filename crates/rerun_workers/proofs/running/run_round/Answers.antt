-- Answers to the goals that the check of `run_round` leaves open.
use Rattle.std.proofs.Common.{IfOk, option_map, is_some, ap, sym, ◌∙◌, arith}
use Rattle.std.specs.Arc.{arc_value}
use Rattle.propagate.specs.Executing.{IsCostOf}
use Rattle.rerun_workers.specs.Making.{IsRoundBy, ComparesNone}
use Rattle.rerun_workers.proofs.Made.{of-same, closed-own, closed-opening, by-several, cost-several}
use Rattle.rerun_workers.proofs.running.run_round.Goals as goal

pub returns-then-is_some-clause-round : goal.returns-then-is_some-clause-round
returns-then-is_some-clause-round g c =
    let worked = c.in_ok-worked.worked in
    by-several c.args.workers c.args.setup (option_map arc_value c.args.past) worked.round worked.worker_steps.items worked.effort.turns
    worked.effort.compared
    (let some = c.requires in let several = c.if-workers-eq1.false in omega (arith, some, several))
    c.end.ensures.valid.setup
    (closed-opening worked.round worked.worker_steps.items worked.effort.turns worked.effort.compared c.args.setup (option_map arc_value c.args.past)
    c.in_ok-opened.opened c.in_ok-opened.ensures.round c.in_ok-worked.ensures.closed)
    c.end.ensures.valid.by_schedule
    (ap is_some (sym c.end.ensures.ending) ∙ sym c.is_some.ensures ∙ c.if-is_some.true)
    c.in_ok-worked.ensures.each

pub returns-then-is_some-clause-cost : goal.returns-then-is_some-clause-cost
returns-then-is_some-clause-cost g c =
    let worked = c.in_ok-worked.worked in
    cost-several c.args.workers worked.effort.turns worked.effort.compared c.args.setup (option_map arc_value c.args.past) worked.round worked.worker_steps.items
    (let some = c.requires in let several = c.if-workers-eq1.false in omega (arith, some, several))
    (closed-opening worked.round worked.worker_steps.items worked.effort.turns worked.effort.compared c.args.setup (option_map arc_value c.args.past)
    c.in_ok-opened.opened c.in_ok-opened.ensures.round c.in_ok-worked.ensures.closed)

pub returns-then-is_some-clause-spares : goal.returns-then-is_some-clause-spares
returns-then-is_some-clause-spares g c =
    let worked = c.in_ok-worked.worked in
    (closed-opening worked.round worked.worker_steps.items worked.effort.turns worked.effort.compared c.args.setup
    (option_map arc_value c.args.past) c.in_ok-opened.opened c.in_ok-opened.ensures.round
    c.in_ok-worked.ensures.closed).spares

pub run_by_first-requires : goal.run_by_first-requires
run_by_first-requires g c =
    record {
      some = c.requires;
      unused = λ one. c.new.ensures.turns;
      idle = λ h past unedited. c.new.ensures.turns;
      spares = λ h past repeats. c.new.ensures.compared;
    }

pub run_anew-requires : goal.run_anew-requires
run_anew-requires g c =
    let worked = c.in_ok-worked.worked in
    let own =
    closed-own worked.round worked.worker_steps.items worked.effort.turns worked.effort.compared
    c.in_ok-opened.opened.setup c.in_ok-opened.opened.past c.in_ok-worked.ensures.closed in
    record {
      several = let some = c.requires in let several = c.if-workers-eq1.false in omega (arith, some, several);
      idle = own.idle;
      spares = own.spares;
    }

pub returns : goal.returns
returns g c =
    let worked = c.in_ok-worked.worked in
    let closed =
    closed-opening worked.round worked.worker_steps.items worked.effort.turns worked.effort.compared c.args.setup
    (option_map arc_value c.args.past) c.in_ok-opened.opened c.in_ok-opened.ensures.round c.in_ok-worked.ensures.closed in
    record {
      round =
          of-same (λ s p. IfOk c.run_anew.result (λ r. IsRoundBy c.args.workers s p r.round r.worker_steps.items)) _ _ _ _
          closed.setup closed.past c.run_anew.ensures.round;
      cost =
          of-same (λ s p. IfOk c.run_anew.result (λ r. IsCostOf c.args.workers s p r.round r.effort.turns)) _ _ _ _
          closed.setup closed.past c.run_anew.ensures.cost;
      spares =
          of-same (λ s p. IfOk c.run_anew.result (λ r. ComparesNone s p r.effort.compared)) _ _ _ _ closed.setup
          closed.past c.run_anew.ensures.spares;
    }
