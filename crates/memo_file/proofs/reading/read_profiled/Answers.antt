-- Answers to the goals that the check of `read_profiled` leaves open.
use Rattle.std.proofs.lemmas.Result.{err_from_is_err_and}
use Rattle.memo_file.proofs.Ending.{profile_fails, profile_read, profile_leaves}
use Rattle.memo_file.proofs.reading.read_profiled.Goals as goal

pub returns-in_err-word_that_is-clause-given : goal.returns-in_err-word_that_is-clause-given
returns-in_err-word_that_is-clause-given c =
    let p = err_from_is_err_and c.from_residual.result c.from_residual.ensures.1 in
    rw (p.1, p.2) (profile_fails c.in_err-word_that_is.field-0.0 c.args.cursor.now c.in_err-word_that_is.ensures.given)

pub read_history-requires : goal.read_history-requires
read_history-requires c = record {
  bytes = profile_leaves c.args.cursor.now c.word_that_is.new.cursor c.requires.bytes c.in_ok-word_that_is.ensures.given;
}

pub returns-clause-given : goal.returns-clause-given
returns-clause-given c =
    rw (profile_read c.args.cursor.now c.word_that_is.new.cursor c.in_ok-word_that_is.ensures.given)
    c.read_history.ensures.given
