-- Answers to the goals that the check of `read` leaves open.
use Rattle.std.proofs.Common.{◌∙◌}
use Rattle.std.proofs.lemmas.Result.{err_from_is_err_and}
use Rattle.memo_spec.specs.Reading.{reading}
use Rattle.memo_file.proofs.Ending.{one_reading, no_refusal, written_taken}
use Rattle.memo_file.proofs.reading.read.Goals as goal

pub returns-in_err-history-clause-accepts : goal.returns-in_err-history-clause-accepts
returns-in_err-history-clause-accepts c = λ h taken.
    let p = err_from_is_err_and c.from_residual.result c.from_residual.ensures.1 in
    rw (p.1, p.2) (no_refusal c.in_err-history.field-0.0 (reading c.args.bytes.now) h c.in_err-history.ensures
    (c.encoded_is_taken.ensures c.args.bytes.now h taken))

pub returns-in_err-history-clause-written : goal.returns-in_err-history-clause-written
returns-in_err-history-clause-written c = λ h fit whole is.
    returns-in_err-history-clause-accepts c h (written_taken c.args.bytes.now h fit whole is)

pub known_coherent-requires : goal.known_coherent-requires
known_coherent-requires c =
    (c.taken_is_encoded.ensures c.in_ok-history.history c.in_ok-history.ensures).coherent

pub returns-clause-accepts : goal.returns-clause-accepts
returns-clause-accepts c = λ h taken.
    c.known_coherent.ensures ∙ one_reading (reading c.args.bytes.now) c.in_ok-history.history h c.in_ok-history.ensures
    (c.encoded_is_taken.ensures c.args.bytes.now h taken)

pub returns-clause-written : goal.returns-clause-written
returns-clause-written c = λ h fit whole is.
    returns-clause-accepts c h (written_taken c.args.bytes.now h fit whole is)
