-- The clock of the name has the larger counts, and those of the others stay.
use Rattle.std.proofs.Common.{sym, ◌∙◌}
use Rattle.depend_graph.proofs.Named.{larger-set, others-set, larger-push, other-push}
use Rattle.depend_graph.proofs.objects.ObjectClocks.add_one.Goals as goal

pub returns-in-Some-clause-at : goal.returns-in-Some-clause-at
returns-in-Some-clause-at c =
    λ o is.
    larger-set c.args.self.now.clocks.items c.args.object o c.in-Some.place c.index_mut-own.result.now c.join.new.self
    c.args.clock.now (sym c.place.ensures ∙ c.in-Some.is) c.index_mut-own.ensures.value c.join.ensures.larger is

pub returns-in-Some-clause-others : goal.returns-in-Some-clause-others
returns-in-Some-clause-others c =
    λ o isnt.
    others-set c.args.self.now.clocks.items c.args.object o c.in-Some.place c.index_mut-own.result.now c.join.new.self
    (sym c.place.ensures ∙ c.in-Some.is)
    c.index_mut-own.ensures.value isnt

pub returns-in_ok-push-in-None-clause-at : goal.returns-in_ok-push-in-None-clause-at
returns-in_ok-push-in-None-clause-at c =
    λ o is.
    rw c.in_ok-push-in-None.ensures.items
    (larger-push c.args.self.now.clocks.items c.args.object o c.args.clock.now (sym c.place.ensures ∙ c.in-None.is) is)

pub returns-in_ok-push-in-None-clause-others : goal.returns-in_ok-push-in-None-clause-others
returns-in_ok-push-in-None-clause-others c =
    λ o isnt.
    rw c.in_ok-push-in-None.ensures.items
    (other-push c.args.self.now.clocks.items o (record { object = c.args.object; clock = c.args.clock.now }) isnt)
