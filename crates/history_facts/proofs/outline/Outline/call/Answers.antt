-- Answers to the goals that the check of `Outline::call` leaves open.
use Rattle.std.proofs.Common.{sym, ◌∙◌}
use Rattle.history_facts.proofs.Applying.{acts-exists, acts-free, called-served}
use Rattle.history_facts.proofs.outline.Outline.call.Goals as goal

pub act-requires-clause-exists : goal.act-requires-clause-exists
act-requires-clause-exists c =
    let applied = c.requires.1 in
    acts-exists c.requires.0 c.args.rec.now c.args.self.now.objects c.thread.result applied.whole applied.can
    applied.outline.objects c.thread.ensures

pub act-requires-clause-free : goal.act-requires-clause-free
act-requires-clause-free c =
    let applied = c.requires.1 in
    acts-free c.requires.0 c.args.rec.now c.args.self.now.objects c.thread.result applied.whole applied.can
    applied.outline.objects c.thread.ensures

pub returns-in-Some-clause-effect : goal.returns-in-Some-clause-effect
returns-in-Some-clause-effect c m applied n =
    called-served m c.args.rec.now c.args.self.now.objects
    c.args.self.now.map c.thread.result c.in-Some.call c.act.result.effect n
    (record {
      objects = applied.outline.objects;
      map_is = applied.outline.map;
      thread = c.thread.ensures;
      asks = sym c.call_of.ensures ∙ c.in-Some.is;
    })
    (c.act.ensures.effect n)
