-- Answers to the goals that the check of `set` leaves open.
use Rattle.page_store.proofs.Marks.{flags_of-set}
use Rattle.page_store.proofs.mask.Mask.set.Goals as goal

pub returns : goal.returns
returns c = rw (← c.self.view_is) (flags_of-set c.self.inside.words c.args.place c.self.invariant c.requires)
