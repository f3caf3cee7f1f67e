-- Answers to the goals that the check of `Crew::make` leaves open.
use Rattle.std.proofs.Common.{rules, option_map}
use Rattle.std.specs.Arc.{arc_value}
use Rattle.propagate.specs.Executing.{IsCostOf}
use Rattle.ith_top.proofs.crew.Crew.make.Goals as goal
use Rattle.ith_top.proofs.crew.Crew.make.Goals.{then-watched, else-watched}

pub returns-clause-cost : goal.returns-clause-cost
returns-clause-cost g c =
    let worked = c.in_ok-worked.worked in
    let cost : IsCostOf c.args.self.now.workers c.args.setup (option_map arc_value c.args.past) worked.round worked.effort.turns =
    elim c.if-watched.branch [ then-watched w ↦ search rules | else-watched w ↦ search rules ] in
    (worked.effort.turns, search rules, cost)
