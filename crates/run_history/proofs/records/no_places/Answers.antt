-- Answers to the goals that the check of `no_places` leaves open.
use Rattle.std.proofs.Common.{◌<◌, subst}
use Rattle.run_history.proofs.records.no_places.Goals as goal

pub returns : goal.returns
returns c k d below =
    let called = c.from_fn.ensures.items.at k d (subst (λ n. k < n) c.from_fn.ensures.items.long below) in
    called.2.met.1
