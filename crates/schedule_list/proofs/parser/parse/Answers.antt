-- Answers to the goals that the check of `parse` leaves open.
use Rattle.std.proofs.Common.{[]}
use Rattle.std.proofs.lemmas.Result.{err_from_is_err_and}
use Rattle.schedule_list.specs.Schedule.{tokens}
use Rattle.schedule_list.proofs.Reading.{piece_read, all_read, refused_there, cut_at_gap, last_piece}
use Rattle.schedule_list.proofs.parser.parse.Goals as goal

pub returns-in_err-add_token-clause-refused : goal.returns-in_err-add_token-clause-refused
returns-in_err-add_token-clause-refused c =
    let has =
    cut_at_gap c.args.text.now c.loop-piece.rest.now c.in-Some.piece.now c.in-Some.after.now c.loop-piece.threads.items
    c.in-Some.ensures c.loop-piece.invariant in
    let p = err_from_is_err_and c.from_residual.result c.from_residual.ensures.1 in
    rw (p.1, p.2)
    (refused_there c.args.text.now c.in-Some.piece.now (tokens c.in-Some.after.now) c.loop-piece.threads.items
    c.in_err-add_token.field-0.0 has c.in_err-add_token.ensures.refused)

pub loop-piece-preserved : goal.loop-piece-preserved
loop-piece-preserved c =
    piece_read c.args.text.now c.in-Some.piece.now (tokens c.in-Some.after.now) c.loop-piece.threads.items
    c.add_token.new.threads.items
    (cut_at_gap c.args.text.now c.loop-piece.rest.now c.in-Some.piece.now c.in-Some.after.now c.loop-piece.threads.items
    c.in-Some.ensures c.loop-piece.invariant)
    c.in_ok-add_token.ensures.added

pub returns-in_err-add_token-2-clause-refused : goal.returns-in_err-add_token-2-clause-refused
returns-in_err-add_token-2-clause-refused c =
    let has =
    last_piece c.args.text.now c.loop-piece.rest.now c.loop-piece.threads.items c.in_default.ensures
    c.loop-piece.invariant in
    let p = err_from_is_err_and c.from_residual-in_err-add_token-2.result c.from_residual-in_err-add_token-2.ensures.1 in
    rw (p.1, p.2)
    (refused_there c.args.text.now c.loop-piece.rest.now [] c.loop-piece.threads.items
    c.in_err-add_token-2.field-0.0 has c.in_err-add_token-2.ensures.refused)

pub returns-clause-encoded : goal.returns-clause-encoded
returns-clause-encoded c =
    all_read c.args.text.now c.add_token-2.new.threads.items
    (piece_read c.args.text.now c.loop-piece.rest.now [] c.loop-piece.threads.items c.add_token-2.new.threads.items
    (last_piece c.args.text.now c.loop-piece.rest.now c.loop-piece.threads.items c.in_default.ensures
    c.loop-piece.invariant)
    c.in_ok-add_token-2.ensures.added)
