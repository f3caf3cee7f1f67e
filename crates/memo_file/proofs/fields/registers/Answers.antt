-- Answers to the goals that the check of `registers` leaves open.
use Rattle.std.proofs.Common.{◌≡◌, take, length, arith}
use Rattle.std.specs.Int.{w32}
use Rattle.std.proofs.lemmas.Result.{err_from_is_err_and}
use Rattle.std.proofs.lemmas.List.{take_more_set, take_all, length-set}
use Rattle.memo_spec.specs.Reader.{number_at}
use Rattle.memo_file.proofs.Loops.{each_goes_on, each_ends, each_done, registers_fail, registers_done}
use Rattle.memo_file.proofs.fields.registers.Goals as goal

pub returns-in_err-words-clause-given : goal.returns-in_err-words-clause-given
returns-in_err-words-clause-given c =
    let p = err_from_is_err_and c.from_residual.result c.from_residual.ensures.1 in
    rw (p.1, p.2) (registers_fail c.in_err-words.field-0.0 c.args.cursor.now
    (each_ends c.in_err-words.field-0.0 (number_at w32) (take c.loop-i.i c.loop-i.words) 32 c.loop-i.i
    c.loop-i.cursor _ c.loop-i-test.true c.in_err-words.ensures.given c.loop-i.invariant.1))

pub returns-in_err-words-clause-no_memory : goal.returns-in_err-words-clause-no_memory
returns-in_err-words-clause-no_memory c =
    let p = err_from_is_err_and c.from_residual.result c.from_residual.ensures.1 in
    rw (p.1, p.2) c.in_err-words.ensures.no_memory

pub loop-i-preserved : goal.loop-i-preserved
loop-i-preserved c =
    let len : length c.loop-i.words ≡ 32 = c.loop-i.invariant.0 in (
      omega (arith, len, length-set c.loop-i.words c.loop-i.i c.in_ok-words.field-0),
      rw (take_more_set c.loop-i.words c.loop-i.i c.in_ok-words.field-0 (omega (arith, len, c.loop-i-test.true)))
          (each_goes_on (number_at w32) (take c.loop-i.i c.loop-i.words) 32 c.loop-i.i c.loop-i.cursor
          c.in_ok-words.field-0 c.word.new.cursor _ c.loop-i-test.true c.in_ok-words.ensures.given c.loop-i.invariant.1),
    )

pub returns-clause-given : goal.returns-clause-given
returns-clause-given c =
    let len : length c.loop-i.words ≡ 32 = c.loop-i.invariant.0 in
    let all = take_all c.loop-i.i c.loop-i.words (omega (arith, len, c.loop-i-test.false)) in
    rw c.from_words.ensures (registers_done c.args.cursor.now c.loop-i.cursor _ c.loop-i.words all
    (each_done (number_at w32) (take c.loop-i.i c.loop-i.words) 32 c.loop-i.i c.loop-i.cursor _
    c.loop-i-test.false c.loop-i.invariant.1))
