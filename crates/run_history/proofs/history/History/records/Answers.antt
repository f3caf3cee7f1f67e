-- The slots are those of the map that was kept.
use Rattle.std.proofs.Common.{subst}
use Rattle.history_spec.specs.History.{IsMapped}
use Rattle.run_history.proofs.history.History.records.Goals as goal

pub returns-clause-mapped : goal.returns-clause-mapped
returns-clause-mapped c = subst IsMapped c.self.view_is c.self.invariant.mapped
