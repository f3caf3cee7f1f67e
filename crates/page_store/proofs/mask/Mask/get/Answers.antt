-- Answers to the goals that the check of `get` leaves open.
use Rattle.page_store.proofs.Marks.{length-flags_of, tested_at}
use Rattle.page_store.proofs.mask.Mask.get.Goals as goal

pub returns-clause-mark : goal.returns-clause-mark
returns-clause-mark c = rw (← c.self.view_is) (tested_at c.self.inside.words c.args.place c.requires)

pub returns-clause-whole : goal.returns-clause-whole
returns-clause-whole c = rw (← c.self.view_is) (length-flags_of c.self.inside.words)
