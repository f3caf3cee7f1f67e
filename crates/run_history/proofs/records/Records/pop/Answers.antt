-- Answers to the goals that the check of `Records::pop` leaves open.
use Rattle.std.proofs.Common.{◌≡◌, ◌∷◌, [], ◌++◌, List, subst, map, length, take, ◌-◌, slice_set, slice_index_or, arith}
use Rattle.std.proofs.lemmas.Grind.{common_steps}
use Rattle.std.specs.Arc.{arc_value}
use Rattle.thunk_spec.specs.Record.{Record}
use Rattle.run_history.specs.Records.{IsIndexed}
use Rattle.run_history.proofs.Placing.{indexed-less}
use Rattle.run_history.proofs.records.Records.pop.Goals as goal

pub invariant_of-self : goal.invariant_of-self
invariant_of-self c =
    let rs : List Record = map arc_value c.pop.new.self.items in
    let r : Record = arc_value c.in-Some.rec in
    let records : map arc_value c.self.inside.list.items ≡ rs ++ r ∷ [] = grind (arith, common_steps) in
    let rows : c.drop_place.new.rows
    ≡ slice_set c.self.inside.rows r.thread
    (take (length (slice_index_or c.self.inside.rows r.thread []) - 1)
    (slice_index_or c.self.inside.rows r.thread [])) = grind (arith, common_steps) in
    rw rows
    (indexed-less c.self.inside.rows rs r
    (subst (λ (xs : List Record). IsIndexed c.self.inside.rows xs) records c.self.invariant)
    c.drop_place.ensures.count)
