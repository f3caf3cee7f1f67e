-- Answers to the goals that the check of `Round::new` leaves open.
use Rattle.std.proofs.Common.{◌≡◌, Bool, true, false, not, option_map, refl, subst}
use Rattle.std.specs.Arc.{arc_value}
use Rattle.propagate.specs.Consistency.{IsFound}
use Rattle.propagate.proofs.Keeping.{kept_opening, knows-opening}
use Rattle.propagate.proofs.round.Round.new.Goals as goal

flip : (none some : Bool) → some ≡ not none → none ≡ not some
flip true some is = rw is refl
flip false some is = rw is refl

pub invariant_of-result : goal.invariant_of-result
invariant_of-result c =
    rw (
      c.in_ok-core.ensures.first,
      c.new-2.ensures.items,
      c.new-3.ensures,
      c.new-4.ensures.items,
      c.none_in_flight.ensures,
      c.nothing_taken.ensures,
    )
    (kept_opening c.args.setup (option_map arc_value c.args.past) c.find_facts.new.graph c.in_ok-marks.marks
    c.in_ok-core.ensures.sound c.in_ok-marks.ensures
    (knows-opening c.args.setup (option_map arc_value c.args.past) c.in_ok-marks.marks c.in_ok-graph.graph
    c.find_facts.new.graph c.in_ok-graph.ensures.right
    (subst
    (λ (b : Bool). IsFound b (option_map arc_value c.args.past) c.in_ok-graph.graph c.find_facts.new.graph)
    (flip c.is_none.result _ c.is_none.ensures) c.in_ok-find_facts.ensures.found)))
