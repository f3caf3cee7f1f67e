-- Answers to the goals that the check of `number_of` leaves open.
use Rattle.std.proofs.Common.{◌∙◌, arith}
use Rattle.clap.specs.Words.{found_of}
use Rattle.ith_words.proofs.Rows.{number_read, number_unread, taken_within, taken_below, taken_above}
use Rattle.ith_words.proofs.given.number_of.Goals as goal

pub returns-in-Some-clause-value : goal.returns-in-Some-clause-value
returns-in-Some-clause-value c =
    taken_within c.args.least c.args.most c.in-Some.number c.if-least-number.true c.if-number-most.true
    ∙ number_read c.args.least c.args.most (found_of c.args.given.now) c.args.id.now
    c.in-Some.number c.in-Some.ensures.none
    (λ t is. (c.in-Some.ensures.value t is).0)

pub returns-in_default-clause-value : goal.returns-in_default-clause-value
returns-in_default-clause-value c =
    taken_above c.args.least c.args.most c.in-Some.number c.if-least-number.true c.if-number-most.false
    ∙ number_read c.args.least c.args.most (found_of c.args.given.now) c.args.id.now
    c.in-Some.number c.in-Some.ensures.none
    (λ t is. (c.in-Some.ensures.value t is).0)

pub returns-in_default-2-clause-value : goal.returns-in_default-2-clause-value
returns-in_default-2-clause-value c =
    taken_below c.args.least c.args.most c.in-Some.number c.if-least-number.false
    ∙ number_read c.args.least c.args.most (found_of c.args.given.now) c.args.id.now
    c.in-Some.number c.in-Some.ensures.none
    (λ t is. (c.in-Some.ensures.value t is).0)

pub returns-in_default-3-clause-value : goal.returns-in_default-3-clause-value
returns-in_default-3-clause-value c =
    number_unread c.args.least c.args.most (found_of c.args.given.now) c.args.id.now (omega arith)
    (λ t is number. let given = c.in_default.ensures.value t is in given.1.0 number)
