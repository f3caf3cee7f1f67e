-- The clocks that are joined for a step are those of all that it must come after.
use Rattle.std.proofs.Common.{◌∙◌, arith}
use Rattle.std.proofs.lemmas.List.{get_or_read}
use Rattle.history_spec.specs.Before.{no_fact}
use Rattle.sync_objects.specs.Acting.{objects_in}
use Rattle.depend_graph.proofs.Gathering.{gathered-join}
use Rattle.depend_graph.proofs.past.Past.joined.Goals as goal

pub returns : goal.returns
returns c =
    gathered-join c.args.facts.now c.args.n c.args.self.now
    (record {
      thread = c.fact.inside.thread;
      objects = objects_in c.fact.inside.objects;
      given = c.fact.inside.given.items;
      written = c.fact.inside.written.items;
      opened = c.fact.inside.opened.items;
      last = c.fact.inside.last;
    })
    c.join_if_last.new.clock
    (c.fact.view_is
    ∙ get_or_read c.args.facts.now c.args.n c.index-facts-n.result c.requires.in_range c.index-facts-n.is no_fact)
    (λ i low. c.requires.threads i no_fact (let in_range = c.requires.in_range in omega arith))
    c.requires.past
    (record {
      blank = c.zero-clock.result;
      own = c.join_into.new.clock;
      given = c.join_into-2.new.clock;
      acted = c.join_into-3.new.clock;
      wrote = c.join_into-4.new.clock;
      opened = c.join_into-5.new.clock;
      over = c.join_into-6.new.clock;
      is_blank = c.zero-clock.ensures;
      is_own = c.join_into.ensures;
      is_given = c.join_into-2.ensures;
      is_acted = c.join_into-3.ensures;
      is_wrote = λ t. rw c.deref.ensures.value at (c.join_into-4.ensures t);
      is_opened = λ t. rw c.deref-2.ensures.value at (c.join_into-5.ensures t);
      is_over = λ t. rw c.deref-3.ensures.value at (c.join_into-6.ensures t);
      is_last = c.join_if_last.ensures;
    })
