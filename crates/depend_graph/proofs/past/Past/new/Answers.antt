-- No step was joined to any clock.
use Rattle.std.proofs.Common.{arith}
use Rattle.depend_graph.specs.Clocks.{thread_clock, object_clock, page_clock}
use Rattle.depend_graph.specs.Past.{is_of, acts_on, writes, opens, gives}
use Rattle.depend_graph.proofs.Joins.{join-none}
use Rattle.depend_graph.proofs.past.Past.new.Goals as goal

pub returns : goal.returns
returns c =
    λ fs.
    record {
      threads = λ t few.
          join-none fs (is_of fs t) 0 (thread_clock c.new.result t) (λ i low. absurd (omega arith)) (c.new.ensures t);
      givers = λ t few.
          join-none fs (gives fs 0 t) 0 (thread_clock c.new-2.result t) (λ i low. absurd (omega arith))
          (c.new-2.ensures t);
      objects = λ o.
          join-none fs (acts_on fs o) 0 (object_clock c.new-3.result o) (λ i low. absurd (omega arith))
          (c.new-3.ensures o);
      writers = λ p.
          join-none fs (writes fs p) 0 (page_clock c.new-4.result p) (λ i low. absurd (omega arith))
          (c.new-4.ensures p);
      openers = λ p.
          join-none fs (opens fs p) 0 (page_clock c.new-5.result p) (λ i low. absurd (omega arith)) (c.new-5.ensures p);
    }
