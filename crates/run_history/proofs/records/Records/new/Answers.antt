-- Answers to the goals that the check of `Records::new` leaves open.
use Rattle.std.proofs.Common.{ap, sym, subst, map}
use Rattle.std.specs.Arc.{arc_value}
use Rattle.run_history.specs.Records.{IsIndexed}
use Rattle.run_history.proofs.Placing.{indexed-none}
use Rattle.run_history.proofs.records.Records.new.Goals as goal

pub invariant_of-result : goal.invariant_of-result
invariant_of-result c =
    subst (λ rs. IsIndexed c.no_places.result rs) (sym (ap (map arc_value) c.new.ensures.items))
    (indexed-none c.no_places.result c.no_places.ensures)
