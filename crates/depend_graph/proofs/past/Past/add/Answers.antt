-- What the step did is joined to the clocks of the steps before it.
use Rattle.std.proofs.Common.{◌+◌, ◌∙◌, arith}
use Rattle.std.proofs.lemmas.List.{get_or_read}
use Rattle.sync_objects.specs.Acting.{objects_in}
use Rattle.history_spec.specs.Before.{no_fact}
use Rattle.depend_graph.proofs.Passing.{passed-past}
use Rattle.depend_graph.proofs.past.Past.add.Goals as goal

pub returns : goal.returns
returns c =
    passed-past c.args.facts.now c.args.n (c.args.n + 1) c.args.self.now
    (record {
      threads = c.add-4.new.self;
      givers = c.add_each.new.self;
      objects = c.add.new.self;
      writers = c.add-2.new.self;
      openers = c.add-3.new.self;
    })
    (record {
      thread = c.fact.inside.thread;
      objects = objects_in c.fact.inside.objects;
      given = c.fact.inside.given.items;
      written = c.fact.inside.written.items;
      opened = c.fact.inside.opened.items;
      last = c.fact.inside.last;
    })
    c.args.clock.now
    (omega arith)
    (c.fact.view_is
    ∙ get_or_read c.args.facts.now c.args.n c.index-facts-n.result c.requires.in_range c.index-facts-n.is no_fact)
    c.requires.past
    c.requires.clock
    (record {
      thread_at = c.add-4.ensures.at;
      thread_others = c.add-4.ensures.others;
      cleared = c.clear.new.self;
      cleared_at = c.clear.ensures.at;
      cleared_others = c.clear.ensures.others;
      given_at = rw c.deref-3.ensures.value at c.add_each.ensures.at;
      given_others = rw c.deref-3.ensures.value at c.add_each.ensures.others;
      object_at = c.in_ok-add.ensures.at;
      object_others = c.in_ok-add.ensures.others;
      writer_at = rw c.deref.ensures.value at c.in_ok-add-2.ensures.at;
      writer_others = rw c.deref.ensures.value at c.in_ok-add-2.ensures.others;
      opener_at = rw c.deref-2.ensures.value at c.in_ok-add-3.ensures.at;
      opener_others = rw c.deref-2.ensures.value at c.in_ok-add-3.ensures.others;
    })
