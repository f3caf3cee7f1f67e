-- The text of the reasons is that of the plan's round.
use Rattle.std.proofs.lemmas.Result.{IfOk-weaker}
use Rattle.ith_commands.specs.Playing.{plan_said}
use Rattle.ith_commands.proofs.Explained.{reasons_reported, first_cost}
use Rattle.ith_commands.proofs.explaining.text_of.Goals as goal

pub returns-clause-reasons : goal.returns-clause-reasons
returns-clause-reasons c =
    IfOk-weaker c.reasons_text.result _ _
    (λ text gives.
    reasons_reported (plan_said c.args.plan) c.in_ok-round.round text.items c.in_ok-round.ensures.round gives)
    c.reasons_text.ensures

pub returns-clause-cost : goal.returns-clause-cost
returns-clause-cost c =
    IfOk-weaker c.reasons_text.result _ _
    (λ text gives. λ input later are.
    first_cost (plan_said c.args.plan) c.in_ok-round.round c.args.turns.now c.first_round.new.turns input later
    c.in_ok-round.ensures.round c.in_ok-round.ensures.cost are)
    c.reasons_text.ensures
