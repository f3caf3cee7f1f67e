-- Answers to the goals that the check of `read_rerun_files` leaves open.
use Rattle.std.proofs.Common.{[], ◌∷◌}
use Rattle.std.proofs.lemmas.Result.{err_from_is_err_and}
use Rattle.ith_words.specs.Said.{rerun_said}
use Rattle.ith_commands.specs.Files.{memo_named, lists_named}
use Rattle.ith_commands.proofs.Asking.{reads_both}
use Rattle.ith_commands.proofs.Ending.{lists_before, memo_unread, rerun_list_unread}
use Rattle.ith_commands.proofs.files.read_rerun_files.Goals as goal

pub returns-in_err-memo-clause-refused : goal.returns-in_err-memo-clause-refused
returns-in_err-memo-clause-refused g c =
    let w = g.H.Host.world in
    let p = err_from_is_err_and c.from_residual.result c.from_residual.ensures.1 in
    rw (p.1, p.2)
    (memo_unread (rerun_said c.args.line.now) (w c.args.host.now)
    (w c.read_memo.new.host) c.in_err-memo.field-0.0 c.in_err-memo.ensures.refused)

pub returns-clause-lists : goal.returns-clause-lists
returns-clause-lists g c =
    let w = g.H.Host.world in
    lists_before (w c.args.host.now) (w c.read_memo.new.host) _ _ c.in_ok-memo.ensures.reads.stays
    (rw (← c.as_slice.ensures.value) c.in_ok-lists.ensures.contents)

pub returns-in_err-lists-clause-refused : goal.returns-in_err-lists-clause-refused
returns-in_err-lists-clause-refused g c =
    let w = g.H.Host.world in
    let p = err_from_is_err_and c.from_residual-in_err-lists.result c.from_residual-in_err-lists.ensures.1 in
    rw (p.1, p.2)
    (rerun_list_unread (rerun_said c.args.line.now) (w c.args.host.now) (w c.read_memo.new.host)
    (w c.read_lists.new.host)
    c.in_err-lists.field-0.0 c.in_ok-memo.memo.items c.in_ok-memo.ensures.reads c.in_ok-memo.ensures.content
    (rw (← c.as_slice.ensures.value) c.in_err-lists.ensures.refused))

pub returns-clause-reads : goal.returns-clause-reads
returns-clause-reads g c =
    let w = g.H.Host.world in let line = rerun_said c.args.line.now in
    reads_both (memo_named line.memo ∷ []) (lists_named line.edits)
    (w c.args.host.now) (w c.read_memo.new.host) (w c.read_lists.new.host) c.in_ok-memo.ensures.reads
    (rw (← c.as_slice.ensures.value) c.in_ok-lists.ensures.reads)
