-- Answers to the goals that the check of `reached_is_the_least_closed_set` leaves open.
use Rattle.std.proofs.Common.{suc, ap, Bool, ◌&&◌}
use Rattle.history_spec.specs.Before.{meets, fact_at}
use Rattle.round_spec.specs.Reach.{read_at, gave_at}
use Rattle.round_spec.proofs.Givers.{last-tells}
use Rattle.round_spec.proofs.Least.{within-least, reached-closed, reached-pass}
use Rattle.round_spec.proofs.reached_is_the_least_closed_set.Goals as goal

pub returns-clause-closed : goal.returns-clause-closed
returns-clause-closed c = λ fs reads pages. reached-closed fs reads pages

pub returns-clause-least : goal.returns-clause-least
returns-clause-least c = λ fs reads pages among j closed below is.
    within-least fs reads pages among closed (suc j) j below is

pub returns-clause-pass : goal.returns-clause-pass
returns-clause-pass c = λ fs reads pages j. reached-pass fs reads pages j

pub returns-clause-giver : goal.returns-clause-giver
returns-clause-giver c = λ fs reads w j.
    ap (λ (b : Bool). b && meets (fact_at fs w).written (read_at reads j)) (last-tells (λ g. gave_at fs g j) w j)
