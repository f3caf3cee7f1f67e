-- Why the text of a schedule comes to no end.
use Rattle.std.proofs.Common.{rules}
use Rattle.std.specs.Prelude.{Ok}
use Rattle.plain_machine.specs.Replaying.{IsFirstForbidden}
use Rattle.schedule_list.specs.Schedule.{Says}
use Rattle.ith_commands.specs.Ends.{Entry}
use Rattle.std.proofs.lemmas.Result.{err_from_is_err_and}
use Rattle.ith_commands.proofs.Replayed.{unsaid_unreplayed}
use Rattle.ith_commands.proofs.replaying.outcome_of.Goals as goal

pub returns-in_err-threads-clause-refused : goal.returns-in_err-threads-clause-refused
returns-in_err-threads-clause-refused g c =
    let p = err_from_is_err_and c.from_residual.result c.from_residual.ensures.1 in
    rw (p.1, p.2)
    (unsaid_unreplayed c.args.setup.now c.args.text.now c.in_err-threads.field-0.0 c.in_err-threads.ensures.refused)

pub returns-in-Err-Forbidden-clause-refused : goal.returns-in-Err-Forbidden-clause-refused
returns-in-Err-Forbidden-clause-refused g c =
    let threads = c.in_ok-threads.threads.items in let n = c.in-Err-Forbidden.number in
    let says : Says c.args.text.now (Ok threads) = c.in_ok-threads.ensures.threads in
    let cause : IsFirstForbidden c.args.setup.now threads n = search rules in
    (Entry n, (threads, says, cause))
