-- Answers to the goals that the check of `follow_pick` leaves open.
use Rattle.std.proofs.Common.{sym, ◌∙◌}
use Rattle.round_spec.specs.declared.events.Event.TheVariants.{Reuse}
use Rattle.propagate.proofs.Executing.{costs-nothing, reuse-spares, run-spares}
use Rattle.propagate.proofs.alone.follow_pick.Goals as goal

pub returns-in_ok-reuse-in-Reuse-clause-cost : goal.returns-in_ok-reuse-in-Reuse-clause-cost
returns-in_ok-reuse-in-Reuse-clause-cost g c =
    costs-nothing c.args.turns.now c.args.round.now c.reuse.new.self (Reuse c.in-Reuse.t) c.pick.ensures.valid.counted tt
    c.in_ok-reuse-in-Reuse.ensures.ok

pub returns-in_ok-reuse-in-Reuse-clause-spares : goal.returns-in_ok-reuse-in-Reuse-clause-spares
returns-in_ok-reuse-in-Reuse-clause-spares g c =
    reuse-spares c.args.round.now c.reuse.new.self c.in-Reuse.t c.args.compared.now c.pick.new.compared
    c.pick.ensures.valid.setup (sym c.pick.ensures.pick ∙ c.in-Reuse.is) c.in_ok-reuse-in-Reuse.ensures.ok
    c.pick.ensures.spares

pub returns-in_ok-run_step-in-Run-clause-spares : goal.returns-in_ok-run_step-in-Run-clause-spares
returns-in_ok-run_step-in-Run-clause-spares g c =
    run-spares c.args.round.now c.run_step.new.round c.in-Run.t c.args.compared.now c.pick.new.compared
    c.pick.ensures.valid.setup (sym c.pick.ensures.pick ∙ c.in-Run.is)
