-- Why the memo of a name gave no history.
use Rattle.std.proofs.Common.{[], ◌∷◌}
use Rattle.std.proofs.lemmas.Result.{err_from_is_err_and}
use Rattle.ith_commands.specs.Files.{memo_named}
use Rattle.ith_commands.specs.Contents.{IsMemoOf}
use Rattle.ith_commands.specs.Refusals.{WhyNoHistory}
use Rattle.ith_commands.proofs.Worlds.{reads_then}
use Rattle.ith_commands.proofs.Ending.{unread_ends, unremembered}
use Rattle.ith_commands.proofs.plan.remember.Goals as goal

pub returns-in_err-memo-clause-refused : goal.returns-in_err-memo-clause-refused
returns-in_err-memo-clause-refused g c =
    let w = g.H.Host.world in
    let p = err_from_is_err_and c.from_residual.result c.from_residual.ensures.1 in
    rw (p.1, p.2)
    (unread_ends (memo_named c.args.name.now ∷ []) _ _ _ (w c.args.host.now) (w c.read_memo.new.host)
    c.in_err-memo.field-0.0 c.in_err-memo.ensures.refused)

pub returns-in_err-history-clause-refused : goal.returns-in_err-history-clause-refused
returns-in_err-history-clause-refused g c =
    let w = g.H.Host.world in
    let why : WhyNoHistory c.in_ok-memo.memo.items c.in_err-history.field-0.0 =
    rw (← c.as_slice.ensures.value) c.in_err-history.ensures.refused in
    let p = err_from_is_err_and c.from_residual-in_err-history.result c.from_residual-in_err-history.ensures.1 in
    rw (p.1, p.2)
    (unremembered c.args.name.now (w c.args.host.now) (w c.recall.new.host)
    c.in_ok-memo.memo.items c.in_err-history.field-0.0
    (reads_then _ (w c.args.host.now) (w c.read_memo.new.host) (w c.recall.new.host)
    c.in_ok-memo.ensures.reads c.in_err-history.ensures.quiet)
    c.in_ok-memo.ensures.content why)

pub returns-clause-history : goal.returns-clause-history
returns-clause-history g c =
    let is : IsMemoOf c.in_ok-memo.memo.items c.in_ok-history.history =
    rw (← c.as_slice.ensures.value) c.in_ok-history.ensures.history in
    record { memo = c.in_ok-memo.memo.items; read = c.in_ok-memo.ensures.content; accepted = is }

pub returns-clause-reads : goal.returns-clause-reads
returns-clause-reads g c =
    let w = g.H.Host.world in
    reads_then (memo_named c.args.name.now ∷ []) (w c.args.host.now) (w c.read_memo.new.host) (w c.recall.new.host)
    c.in_ok-memo.ensures.reads c.in_ok-history.ensures.quiet
