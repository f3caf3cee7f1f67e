-- Answers to the goals that the check of `run` leaves open.
use Rattle.std.proofs.Common.{inl, inr}
use Rattle.std.proofs.lemmas.Result.{err_from_is_err_and}
use Rattle.ith_words.specs.Words.{Line, Runs}
use Rattle.ith_words.specs.Said.{run_said}
use Rattle.ith_commands.specs.Ends.{new_memo_of}
use Rattle.ith_commands.specs.Playing.{plan_said}
use Rattle.ith_top.proofs.Done.{rounds_end, rounds_spend}
use Rattle.ith_commands.proofs.Spent.{early_unspent}
use Rattle.ith_top.proofs.Counted.{counted_none, counted, run_asked}
use Rattle.ith_top.proofs.program.run.Goals as goal

pub returns-in_err-plan-clause-ends : goal.returns-in_err-plan-clause-ends
returns-in_err-plan-clause-ends g c =
    let p = err_from_is_err_and c.from_residual.result c.from_residual.ensures.1 in
    rw (p.1, p.2) (inl c.in_err-plan.ensures.refused)

pub returns-in_err-plan-clause-made : goal.returns-in_err-plan-clause-made
returns-in_err-plan-clause-made g c =
    let w = g.H.Host.world in let line : Line = Runs (run_said c.args.line.now) in
    let p = err_from_is_err_and c.from_residual.result c.from_residual.ensures.1 in
    rw (p.1, p.2)
    (counted_none line (w c.args.host.now) (w c.prepare.new.host) c.args.crew.now.work.rounds
    c.in_err-plan.field-0.0 c.in_err-plan.ensures.refused)

pub returns-in_err-plan-clause-turns : goal.returns-in_err-plan-clause-turns
returns-in_err-plan-clause-turns g c =
    let w = g.H.Host.world in
    let p = err_from_is_err_and c.from_residual.result c.from_residual.ensures.1 in
    rw (p.1, p.2)
    (early_unspent _ _ _ _ (w c.args.host.now) (w c.prepare.new.host) c.in_err-plan.field-0.0 _
    c.in_err-plan.ensures.refused)

pub returns-clause-ends : goal.returns-clause-ends
returns-clause-ends g c =
    let w = g.H.Host.world in let line : Line = Runs (run_said c.args.line.now) in
    inr
    (rounds_end line (w c.args.host.now) (w c.prepare.new.host) (w c.carry_out.new.host) (plan_said c.in_ok-plan.plan)
    c.args.crew.now.work c.carry_out.new.crew.work c.carry_out.result c.in_ok-plan.ensures.plan
    c.carry_out.ensures.asked (rw c.requires at c.carry_out.ensures.done) (rw c.requires at c.carry_out.ensures.refused))

pub returns-clause-made : goal.returns-clause-made
returns-clause-made g c =
    let w = g.H.Host.world in let line : Line = Runs (run_said c.args.line.now) in
    counted line (new_memo_of line) c.args.crew.now.workers (plan_said c.in_ok-plan.plan) (w c.prepare.new.host)
    (w c.carry_out.new.host) c.args.crew.now.work c.carry_out.new.crew.work c.carry_out.result
    (run_asked (run_said c.args.line.now) (w c.args.host.now) (plan_said c.in_ok-plan.plan) c.in_ok-plan.ensures.plan.is)
    c.carry_out.ensures.done c.carry_out.ensures.refused

pub returns-clause-turns : goal.returns-clause-turns
returns-clause-turns g c =
    let w = g.H.Host.world in let line : Line = Runs (run_said c.args.line.now) in
    rounds_spend line (w c.args.host.now) (w c.prepare.new.host) (w c.carry_out.new.host) (plan_said c.in_ok-plan.plan)
    c.args.crew.now.work c.carry_out.new.crew.work c.carry_out.result c.in_ok-plan.ensures.plan
    c.carry_out.ensures.asked (rw c.requires at c.carry_out.ensures.done) (rw c.requires at c.carry_out.ensures.refused)
