-- Answers to the goals that the check of `is_empty` leaves open.
use Rattle.std.proofs.Common.{ap, sym, not, arith}
use Rattle.page_store.proofs.Marks.{is_stored-zeros, is_stored-word}
use Rattle.page_store.proofs.mask.Mask.is_empty.Goals as goal

pub returns-in-None : goal.returns-in-None
returns-in-None c = rw (← c.self.view_is) (ap not (sym (is_stored-zeros c.self.inside.words c.in-None.ensures.missing)))

pub returns-in-Some : goal.returns-in-Some
returns-in-Some c =
    let found = c.in-Some.ensures.found in
    rw (← c.self.view_is)
    (ap not (sym (is_stored-word c.self.inside.words c.in-Some.field-0 (omega (arith, found.0)) found.1 found.2)))
