-- Answers to the goals that the check of `read_text` leaves open.
use Rattle.std.proofs.Common.{◌≡◌, ◌≢◌, length, sym, ◌∙◌, arith}
use Rattle.std.proofs.lemmas.Result.{err_from_is_err_and}
use Rattle.memo_file.proofs.Ending.{history_fails, bytes_left, none_left, judge_fails, are_bytes}
use Rattle.memo_file.proofs.reading.read_text.Goals as goal

pub read_behind_version-requires : goal.read_behind_version-requires
read_behind_version-requires c = record {
  bytes = rw c.behind_opening-cursor.ensures
      (are_bytes c.args.text.now (λ i. omega (arith, c.type_inv.text i)));
}

pub returns-in_err-history : goal.returns-in_err-history
returns-in_err-history c =
    let p = err_from_is_err_and c.from_residual.result c.from_residual.ensures.1 in
    rw (p.1, p.2) (history_fails c.args.format c.in_err-history.field-0.0 c.args.text.now
    (rw c.behind_opening-cursor.ensures at c.in_err-history.ensures.given))

pub returns-then-remaining-ne0 : goal.returns-then-remaining-ne0
returns-then-remaining-ne0 c =
    let at : c.position.result ≡ c.read_behind_version.new.cursor.taken = c.position.ensures in
    let ne : length c.read_behind_version.new.cursor.left ≢ 0 = λ e. c.if-remaining-ne0.true (c.remaining.ensures ∙ e) in
    rw at (bytes_left c.args.format c.args.text.now c.in_ok-history.history c.read_behind_version.new.cursor
    (rw c.behind_opening-cursor.ensures at c.in_ok-history.ensures.given) ne)

pub returns-in_err-judge : goal.returns-in_err-judge
returns-in_err-judge c =
    let p = err_from_is_err_and c.from_residual-in_err-judge.result c.from_residual-in_err-judge.ensures.1 in
    let none : length c.read_behind_version.new.cursor.left ≡ 0 = sym c.remaining.ensures ∙ c.if-remaining-ne0.false in
    rw (p.1, p.2) (judge_fails c.args.format c.in_err-judge.field-0.0 c.args.text.now _
    (none_left c.args.format c.args.text.now c.in_ok-history.history c.read_behind_version.new.cursor
    (rw c.behind_opening-cursor.ensures at c.in_ok-history.ensures.given) none) c.in_err-judge.ensures)

pub returns : goal.returns
returns c =
    let none : length c.read_behind_version.new.cursor.left ≡ 0 = sym c.remaining.ensures ∙ c.if-remaining-ne0.false in
    none_left c.args.format c.args.text.now c.in_ok-history.history c.read_behind_version.new.cursor
    (rw c.behind_opening-cursor.ensures at c.in_ok-history.ensures.given) none ∙ c.in_ok-judge.ensures
