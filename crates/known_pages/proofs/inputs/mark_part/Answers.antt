-- Answers to the goals that the check of `mark_part` leaves open.
use Rattle.std.proofs.Common.{sym, ◌∙◌}
use Rattle.std.proofs.lemmas.Slice.Eq.{bytes_eq-Decides}
use Rattle.known_pages.proofs.Starts.{same-page}
use Rattle.known_pages.proofs.inputs.mark_part.Goals as goal

pub returns-then-eq-clause-same : goal.returns-then-eq-clause-same
returns-then-eq-clause-same c = λ clean.
    same-page c.args.old.now c.args.new.now c.args.k
    (sym c.part_of.ensures
    ∙ (bytes_eq-Decides c.part_of.result.now c.part_of-2.result.now).0 (sym c.eq.ensures ∙ c.if-eq.true)
    ∙ c.part_of-2.ensures)
