-- Answers to the goals that the check of `Round::with_free` leaves open.
use Rattle.std.proofs.Common.{Some, ap, sym, ◌∙◌}
use Rattle.propagate.specs.declared.picking.Candidate.{Candidate}
use Rattle.propagate.proofs.Choosing.{first-skip, first-more}
use Rattle.propagate.proofs.round.Round.with_free.Goals as goal

pub returns-then-not-is_free : goal.returns-then-not-is_free
returns-then-not-is_free c =
    first-skip c.args.self.now c.args.t c.args.leader c.requires.below (sym c.is_free.ensures ∙ c.if-not-is_free.true)

pub returns : goal.returns
returns c =
    ap (λ (x : Candidate). Some x) c.better.ensures
    ∙ first-more c.args.self.now c.args.t c.args.leader c.candidate.result c.requires.below
    (sym c.is_free.ensures ∙ c.if-not-is_free.false)
    c.candidate.ensures
