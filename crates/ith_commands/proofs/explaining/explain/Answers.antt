-- How a `why` command ends, from how its parts did.
use Rattle.std.proofs.Common.{inl, inr}
use Rattle.std.proofs.lemmas.Result.{err_from_is_err_and}
use Rattle.ith_words.specs.Words.{Explains}
use Rattle.ith_words.specs.Said.{explain_said}
use Rattle.ith_commands.specs.Files.{files_named}
use Rattle.ith_commands.specs.Ends.{Prints}
use Rattle.ith_commands.specs.Playing.{plan_said}
use Rattle.ith_commands.specs.Refusals.{WhyUnprinted}
use Rattle.ith_commands.proofs.Ending.{cut_ends}
use Rattle.ith_commands.proofs.Explained.{explained_ends, explained_spent, unexplained}
use Rattle.ith_commands.proofs.Spent.{early_unspent, unprinted_unspent}
use Rattle.ith_commands.proofs.explaining.explain.Goals as goal

pub returns-in_err-plan-clause-ends : goal.returns-in_err-plan-clause-ends
returns-in_err-plan-clause-ends g c =
    let p = err_from_is_err_and c.from_residual.result c.from_residual.ensures.1 in
    rw (p.1, p.2) (inl c.in_err-plan.ensures.refused)

pub returns-in_err-plan-clause-cost : goal.returns-in_err-plan-clause-cost
returns-in_err-plan-clause-cost g c =
    let w = g.H.Host.world in
    let p = err_from_is_err_and c.from_residual.result c.from_residual.ensures.1 in
    rw (p.1, p.2)
    (early_unspent _ _ _ _ (w c.args.host.now) (w c.prepare.new.host) c.in_err-plan.field-0.0 _
    c.in_err-plan.ensures.refused)

pub returns-in_err-text-clause-ends : goal.returns-in_err-text-clause-ends
returns-in_err-text-clause-ends g c =
    let w = g.H.Host.world in
    let p = err_from_is_err_and c.from_residual-in_err-text.result c.from_residual-in_err-text.ensures.1 in
    rw (p.1, p.2)
    (inl (cut_ends (files_named (Explains (explain_said c.args.line.now))) (w c.args.host.now) (w c.prepare.new.host)
    c.in_ok-plan.ensures.plan.reads))

pub returns-in_err-text-clause-cost : goal.returns-in_err-text-clause-cost
returns-in_err-text-clause-cost g c =
    let p = err_from_is_err_and c.from_residual-in_err-text.result c.from_residual-in_err-text.ensures.1 in
    rw (p.1, p.2) tt

pub returns-in_err-print_text-clause-ends : goal.returns-in_err-print_text-clause-ends
returns-in_err-print_text-clause-ends g c =
    let w = g.H.Host.world in let b = w c.prepare.new.host in let d = w c.print_text.new.host in
    let why : WhyUnprinted c.in_ok-text.text.items b d c.in_err-print_text.field-0.0 =
    rw (← c.as_slice.ensures.value) c.in_err-print_text.ensures.refused in
    let p = err_from_is_err_and c.from_residual-in_err-print_text.result c.from_residual-in_err-print_text.ensures.1 in
    rw (p.1, p.2)
    (unexplained (explain_said c.args.line.now) (w c.args.host.now) b d (plan_said c.in_ok-plan.plan)
    c.in_ok-text.text.items c.in_err-print_text.field-0.0 c.in_ok-plan.ensures.plan c.in_ok-text.ensures.reasons
    c.print_text.ensures.asked why)

pub returns-in_err-print_text-clause-cost : goal.returns-in_err-print_text-clause-cost
returns-in_err-print_text-clause-cost g c =
    let w = g.H.Host.world in
    let p = err_from_is_err_and c.from_residual-in_err-print_text.result c.from_residual-in_err-print_text.ensures.1 in
    rw (p.1, p.2)
    (unprinted_unspent c.as_slice.result.now (w c.prepare.new.host) (w c.print_text.new.host) c.in_err-print_text.field-0.0 _
    c.in_err-print_text.ensures.refused)

pub returns-clause-ends : goal.returns-clause-ends
returns-clause-ends g c =
    let w = g.H.Host.world in let b = w c.prepare.new.host in let d = w c.print_text.new.host in
    let prints : Prints b d c.in_ok-text.text.items = rw (← c.as_slice.ensures.value) c.in_ok-print_text.ensures.printed in
    inr
    (explained_ends (explain_said c.args.line.now) (w c.args.host.now) b d (plan_said c.in_ok-plan.plan)
    c.in_ok-text.text.items c.in_ok-plan.ensures.plan c.in_ok-text.ensures.reasons c.print_text.ensures.asked prints)

pub returns-clause-cost : goal.returns-clause-cost
returns-clause-cost g c =
    let w = g.H.Host.world in let b = w c.prepare.new.host in let d = w c.print_text.new.host in
    let prints : Prints b d c.in_ok-text.text.items = rw (← c.as_slice.ensures.value) c.in_ok-print_text.ensures.printed in
    explained_spent (explain_said c.args.line.now) (w c.args.host.now) b d (plan_said c.in_ok-plan.plan)
    c.in_ok-text.text.items c.args.turns.now c.text_of.new.turns
    c.in_ok-plan.ensures.plan c.in_ok-text.ensures.reasons c.print_text.ensures.asked prints c.in_ok-text.ensures.cost
