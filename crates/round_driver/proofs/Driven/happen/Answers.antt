-- Answers to the goals that the check of `Driven::happen` leaves open.
use Rattle.round_spec.specs.declared.events.Event.TheVariants.{Take, Reuse, GiveBack, Stop}
use Rattle.propagate.proofs.Executing.{costs-nothing, ok-costs}
use Rattle.round_driver.proofs.Driven.happen.Goals as goal

pub returns-in-Take-clause-cost : goal.returns-in-Take-clause-cost
returns-in-Take-clause-cost c =
    ok-costs c.on_take.result c.args.turns.now c.args.self.now.round c.on_take.new.self.round (Take c.in-Take.t)
    c.on_take.ensures.valid.counted tt c.on_take.ensures.round

pub returns-in-Reuse-clause-cost : goal.returns-in-Reuse-clause-cost
returns-in-Reuse-clause-cost c =
    ok-costs c.on_reuse.result c.args.turns.now c.args.self.now.round c.on_reuse.new.self.round (Reuse c.in-Reuse.t)
    c.on_reuse.ensures.valid.counted tt c.on_reuse.ensures.round

pub returns-in-GiveBack-clause-cost : goal.returns-in-GiveBack-clause-cost
returns-in-GiveBack-clause-cost c =
    costs-nothing c.args.turns.now c.args.self.now.round c.on_give_back.new.self.round (GiveBack c.in-GiveBack.t)
    c.on_give_back.ensures.valid.counted tt c.on_give_back.ensures.round

pub returns-in-Stop-clause-cost : goal.returns-in-Stop-clause-cost
returns-in-Stop-clause-cost c =
    costs-nothing c.args.turns.now c.args.self.now.round c.on_stop.new.self.round Stop
    c.on_stop.ensures.valid.counted tt c.on_stop.ensures.round
