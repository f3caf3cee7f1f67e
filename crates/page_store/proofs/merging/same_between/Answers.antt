-- Answers to the goals that the check of `same_between` leaves open.
use Rattle.page_store.proofs.Giving.{compared}
use Rattle.page_store.proofs.merging.same_between.Goals as goal

pub returns : goal.returns
returns c =
    compared c.args.page.now c.args.written.now c.args.from c.args.to c.eq.result c.requires.ordered c.requires.page
    c.requires.written c.eq.ensures
