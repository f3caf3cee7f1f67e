-- The object's clock, or none, was joined into it.
use Rattle.std.proofs.Common.{slice_index, sym, ap, ◌∙◌, arith}
use Rattle.depend_graph.proofs.Named.{clock-found, clock-none}
use Rattle.depend_graph.proofs.objects.ObjectClocks.join_one_into.Goals as goal

pub returns-in-Some : goal.returns-in-Some
returns-in-Some c =
    λ t.
    let own = ap (λ c. slice_index c t)
    (clock-found c.args.self.now.clocks.items c.args.object c.in-Some.place c.index.result.now
    (sym c.place.ensures ∙ c.in-Some.is)) in
    let joined = c.join.ensures.larger t in
    let is = ap (λ c. slice_index c.clock t) c.index.ensures in
    omega arith

pub returns-in_default : goal.returns-in_default
returns-in_default c =
    λ t.
    let none = ap (λ c. slice_index c t)
    (clock-none c.args.self.now.clocks.items c.args.object (sym c.place.ensures ∙ c.in_default.is)) in
    omega arith
