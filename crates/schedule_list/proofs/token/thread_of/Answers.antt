-- Answers to the goals that the check of `thread_of` leaves open.
use Rattle.std.proofs.Common.{sym, ◌∙◌, arith}
use Rattle.schedule_list.proofs.Encoding.{one_number, no_thread}
use Rattle.schedule_list.proofs.token.thread_of.Goals as goal

pub returns-in_default : goal.returns-in_default
returns-in_default c =
    no_thread c.args.token.now c.unmarked.result.now c.unmarked.ensures.whole
    (λ n few is.
    let same = one_number c.in-Some.number n c.in-Some.ensures.0 few (sym c.in-Some.ensures.1 ∙ is) in
    let many = c.if-number.false in
    omega arith)

pub returns-in_default-2 : goal.returns-in_default-2
returns-in_default-2 c =
    no_thread c.args.token.now c.unmarked.result.now c.unmarked.ensures.whole
    (λ n few is. c.in_default.ensures n (omega arith) is)
