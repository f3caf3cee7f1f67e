-- How a `replay` command ends, from how its parts did.
use Rattle.std.proofs.Common.{inl, sym}
use Rattle.std.specs.Prelude.{Ok}
use Rattle.std.proofs.lemmas.Result.{err_from_is_err_and}
use Rattle.plain_machine.specs.declared.replaying.Outcome.{Outcome}
use Rattle.schedule_list.specs.Schedule.{Says}
use Rattle.ith_words.specs.Words.{Replays}
use Rattle.ith_words.specs.Said.{replay_said}
use Rattle.ith_commands.specs.Statuses.{status_in}
use Rattle.ith_commands.specs.Files.{files_named}
use Rattle.ith_commands.specs.Counting.{ReplaySpends}
use Rattle.ith_commands.specs.Refusals.{WhyUnreplayed, WhyUnprinted}
use Rattle.ith_commands.specs.Playing.{ReportsReplay}
use Rattle.ith_commands.proofs.Worlds.{reads_then}
use Rattle.ith_commands.proofs.Ending.{cut_ends}
use Rattle.ith_commands.proofs.Replayed.{replay_endless, replay_spent, replay_ends, replay_unprinted}
use Rattle.ith_commands.proofs.Spent.{early_unspent, unreplayed_unspent, unprinted_unspent}
use Rattle.ith_commands.proofs.replaying.replay.Goals as goal

pub returns-in_err-setup-clause-ends : goal.returns-in_err-setup-clause-ends
returns-in_err-setup-clause-ends g c =
    let p = err_from_is_err_and c.from_residual.result c.from_residual.ensures.1 in
    rw (p.1, p.2) (inl c.in_err-setup.ensures.refused)

pub returns-in_err-setup-clause-cost : goal.returns-in_err-setup-clause-cost
returns-in_err-setup-clause-cost g c =
    let w = g.H.Host.world in
    let p = err_from_is_err_and c.from_residual.result c.from_residual.ensures.1 in
    rw (p.1, p.2)
    (early_unspent _ _ _ _ (w c.args.host.now) (w c.prepare.new.host) c.in_err-setup.field-0.0 _
    c.in_err-setup.ensures.refused)

pub returns-in_err-threads-clause-ends : goal.returns-in_err-threads-clause-ends
returns-in_err-threads-clause-ends g c =
    let w = g.H.Host.world in let said = c.in_ok-setup.schedule.items in
    let why : WhyUnreplayed c.in_ok-setup.setup said c.in_err-threads.field-0.0 =
    rw (← c.as_slice.ensures.value) c.in_err-threads.ensures.refused in
    let p = err_from_is_err_and c.from_residual-in_err-threads.result c.from_residual-in_err-threads.ensures.1 in
    rw (p.1, p.2)
    (replay_endless (replay_said c.args.line.now) (w c.args.host.now) (w c.prepare.new.host) (w c.outcome_of.new.host)
    c.in_ok-setup.setup said c.in_err-threads.field-0.0 c.in_ok-setup.ensures.replay
    c.in_err-threads.ensures.quiet why)

pub returns-in_err-threads-clause-cost : goal.returns-in_err-threads-clause-cost
returns-in_err-threads-clause-cost g c =
    let p = err_from_is_err_and c.from_residual-in_err-threads.result c.from_residual-in_err-threads.ensures.1 in
    rw (p.1, p.2)
    (unreplayed_unspent c.in_ok-setup.setup c.as_slice.result.now c.in_err-threads.field-0.0 _
    c.in_err-threads.ensures.refused)

pub returns-in_err-text-clause-ends : goal.returns-in_err-text-clause-ends
returns-in_err-text-clause-ends g c =
    let w = g.H.Host.world in let a = w c.args.host.now in let d = w c.outcome_of.new.host in
    let files = files_named (Replays (replay_said c.args.line.now)) in
    let p = err_from_is_err_and c.from_residual-in_err-text.result c.from_residual-in_err-text.ensures.1 in
    rw (p.1, p.2)
    (inl (cut_ends files a d (reads_then files a (w c.prepare.new.host) d c.in_ok-setup.ensures.replay.reads
    c.in_ok-threads.ensures.quiet)))

pub returns-in_err-text-clause-cost : goal.returns-in_err-text-clause-cost
returns-in_err-text-clause-cost g c =
    let p = err_from_is_err_and c.from_residual-in_err-text.result c.from_residual-in_err-text.ensures.1 in
    rw (p.1, p.2) tt

pub returns-in_err-print_text-clause-ends : goal.returns-in_err-print_text-clause-ends
returns-in_err-print_text-clause-ends g c =
    let w = g.H.Host.world in let a = w c.args.host.now in let b = w c.prepare.new.host in
    let d = w c.outcome_of.new.host in let e = w c.print_text.new.host in let line = replay_said c.args.line.now in
    let setup = c.in_ok-setup.setup in let said = c.in_ok-setup.schedule.items in
    let threads = c.in_ok-threads.threads.items in let o : Outcome = c.in_ok-threads.outcome in
    let says : Says said (Ok threads) = rw (← c.as_slice.ensures.value) c.in_ok-threads.ensures.threads in
    let tells : ReportsReplay threads o c.in_ok-text.text.items =
    rw (← c.as_slice-2.ensures.value) c.in_ok-text.ensures in
    let why : WhyUnprinted c.in_ok-text.text.items d e c.in_err-print_text.field-0.0 =
    rw (← c.as_slice-3.ensures.value) c.in_err-print_text.ensures.refused in
    let p = err_from_is_err_and c.from_residual-in_err-print_text.result c.from_residual-in_err-print_text.ensures.1 in
    rw (p.1, p.2)
    (replay_unprinted line a b d e setup said threads c.in_ok-text.text.items o c.in_err-print_text.field-0.0
    c.in_ok-setup.ensures.replay c.in_ok-threads.ensures.quiet says c.in_ok-threads.ensures.outcome tells
    c.print_text.ensures.asked why)

pub returns-in_err-print_text-clause-cost : goal.returns-in_err-print_text-clause-cost
returns-in_err-print_text-clause-cost g c =
    let w = g.H.Host.world in
    let p = err_from_is_err_and c.from_residual-in_err-print_text.result c.from_residual-in_err-print_text.ensures.1 in
    rw (p.1, p.2)
    (unprinted_unspent c.as_slice-3.result.now (w c.outcome_of.new.host) (w c.print_text.new.host) c.in_err-print_text.field-0.0 _
    c.in_err-print_text.ensures.refused)

pub returns-clause-ends : goal.returns-clause-ends
returns-clause-ends g c =
    let w = g.H.Host.world in let a = w c.args.host.now in let b = w c.prepare.new.host in
    let d = w c.outcome_of.new.host in let e = w c.print_text.new.host in let line = replay_said c.args.line.now in
    let setup = c.in_ok-setup.setup in let said = c.in_ok-setup.schedule.items in
    let threads = c.in_ok-threads.threads.items in let o : Outcome = c.in_ok-threads.outcome in
    let says : Says said (Ok threads) = rw (← c.as_slice.ensures.value) c.in_ok-threads.ensures.threads in
    let tells : ReportsReplay threads o c.in_ok-text.text.items =
    rw (← c.as_slice-2.ensures.value) c.in_ok-text.ensures in
    let spent : ReplaySpends line a e c.args.turns.now c.outcome_of.new.turns (status_in (Ok c.is_exit.result)) =
    replay_spent line a b d e setup said threads c.in_ok-text.text.items o c.is_exit.result c.args.turns.now
    c.outcome_of.new.turns c.in_ok-setup.ensures.replay c.in_ok-threads.ensures.quiet says
    c.in_ok-threads.ensures.outcome tells c.print_text.ensures.asked
    (rw (← c.as_slice-3.ensures.value) c.in_ok-print_text.ensures.printed) (sym c.is_exit.ensures)
    c.in_ok-threads.ensures.cost in
    replay_ends line a e c.args.turns.now c.outcome_of.new.turns c.is_exit.result spent

pub returns-clause-cost : goal.returns-clause-cost
returns-clause-cost g c =
    let w = g.H.Host.world in let a = w c.args.host.now in let b = w c.prepare.new.host in
    let d = w c.outcome_of.new.host in let e = w c.print_text.new.host in let line = replay_said c.args.line.now in
    let setup = c.in_ok-setup.setup in let said = c.in_ok-setup.schedule.items in
    let threads = c.in_ok-threads.threads.items in let o : Outcome = c.in_ok-threads.outcome in
    let says : Says said (Ok threads) = rw (← c.as_slice.ensures.value) c.in_ok-threads.ensures.threads in
    let tells : ReportsReplay threads o c.in_ok-text.text.items =
    rw (← c.as_slice-2.ensures.value) c.in_ok-text.ensures in
    let spent : ReplaySpends line a e c.args.turns.now c.outcome_of.new.turns (status_in (Ok c.is_exit.result)) =
    replay_spent line a b d e setup said threads c.in_ok-text.text.items o c.is_exit.result c.args.turns.now
    c.outcome_of.new.turns c.in_ok-setup.ensures.replay c.in_ok-threads.ensures.quiet says
    c.in_ok-threads.ensures.outcome tells c.print_text.ensures.asked
    (rw (← c.as_slice-3.ensures.value) c.in_ok-print_text.ensures.printed) (sym c.is_exit.ensures)
    c.in_ok-threads.ensures.cost in
    spent
