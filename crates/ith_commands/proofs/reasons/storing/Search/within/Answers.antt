-- Answers to the goals that the check of `within` leaves open.
use Rattle.std.proofs.Common.{sym, ◌∙◌, arith}
use Rattle.ith_commands.proofs.Searches.{none-within, some-within}
use Rattle.ith_commands.proofs.reasons.storing.Search.within.Goals as goal

pub returns-in-None-clause-right : goal.returns-in-None-clause-right
returns-in-None-clause-right c = λ records right.
    c.in-None.is
    ∙ sym (none-within records c.args.self.slot c.args.self.place c.args.self.count c.args.count (sym right ∙ c.in-None.is) (omega arith))

pub returns-then-entry-count-clause-right : goal.returns-then-entry-count-clause-right
returns-then-entry-count-clause-right c = λ records right.
    c.in-Some.is
    ∙ sym (some-within records c.args.self.slot c.args.self.place c.args.self.count c.args.count c.in-Some.entry (sym right ∙ c.in-Some.is) (omega arith) (omega arith))
