-- Answers to the goals that the check of `eq` leaves open.
use Rattle.page_store.proofs.MapComparing.{maps_decide}
use Rattle.page_store.proofs.pages.PageMapPartialEq.eq.Goals as goal

pub returns-clause-same : goal.returns-clause-same
returns-clause-same c = maps_decide c.eq.result c.args.self.now c.args.other.now cc
