-- The plan of the rerun that a `why` command explains is the command's, and so is how it ends if there is none.
use Rattle.std.proofs.Common.{subst}
use Rattle.std.specs.Prelude.{IfOk, IfErr}
use Rattle.std.proofs.lemmas.Result.{err_from_is_err_and}
use Rattle.ith_words.specs.Words.{Reruns, RerunLine}
use Rattle.ith_words.specs.Said.{explain_said}
use Rattle.ith_commands.specs.Ends.{EndsEarly}
use Rattle.ith_commands.specs.Playing.{plan_said, IsPrepared}
use Rattle.ith_commands.proofs.Explained.{explain_unasked, explain_prepared}
use Rattle.ith_commands.proofs.explaining.prepare.Goals as goal

pub returns-in_err-rerun-clause-refused : goal.returns-in_err-rerun-clause-refused
returns-in_err-rerun-clause-refused g c =
    let w = g.H.Host.world in
    let p = err_from_is_err_and c.from_residual.result c.from_residual.ensures.1 in
    rw (p.1, p.2) (explain_unasked (explain_said c.args.line.now) (w c.args.host.now))

pub returns-clause-plan : goal.returns-clause-plan
returns-clause-plan g c =
    let w = g.H.Host.world in let a = w c.args.host.now in let b = w c.prepare_rerun.new.host in
    explain_prepared (explain_said c.args.line.now) a b c.prepare_rerun.result
    (subst (λ (l : RerunLine). IfOk c.prepare_rerun.result (λ plan. IsPrepared (Reruns l) a b (plan_said plan)))
    c.in_ok-rerun.ensures c.prepare_rerun.ensures.plan)

pub returns-clause-refused : goal.returns-clause-refused
returns-clause-refused g c =
    let w = g.H.Host.world in
    subst (λ (l : RerunLine). IfErr c.prepare_rerun.result
    (λ s. EndsEarly (Reruns l) (w c.args.host.now) (w c.prepare_rerun.new.host) s))
    c.in_ok-rerun.ensures c.prepare_rerun.ensures.refused
