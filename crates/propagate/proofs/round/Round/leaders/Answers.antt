-- Answers to the goals that the check of `Round::leaders` leaves open.
use Rattle.std.proofs.Common.{length, sym, ◌∙◌}
use Rattle.propagate.proofs.Choosing.{leaders-first}
use Rattle.propagate.proofs.round.Round.leaders.Goals as goal

pub returns-in-Some : goal.returns-in-Some
returns-in-Some c =
    leaders-first c.args.self.now (length c.args.self.now.machine.harts) c.in-Some.first
    (sym c.in-Some.is ∙ c.first_free-free.ensures)
    (sym c.is_due_at.ensures ∙ c.if-is_due_at.true)
