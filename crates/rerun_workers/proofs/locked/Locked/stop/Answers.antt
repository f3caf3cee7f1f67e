-- Answers to the goals that the check of `Locked::stop` leaves open.
use Rattle.std.proofs.Common.{◌∙◌}
use Rattle.rerun_workers.proofs.Under.{counted_on, watched_on}
use Rattle.rerun_workers.proofs.Following.{follows-stop}
use Rattle.rerun_workers.proofs.Issued.{issued-stop}
use Rattle.rerun_workers.proofs.locked.Locked.stop.Goals as goal

pub invariant_of-self : goal.invariant_of-self
invariant_of-self g c =
    record {
      counted = counted_on c.args.self.now.round _ _ c.stop.ensures.same c.args.self.now.counted;
      setup = c.stop.ensures.same.setup ∙ c.args.self.now.setup;
      past = c.stop.ensures.same.past ∙ c.args.self.now.past;
      watched = watched_on c.args.self.now.round _ _ _ c.stop.ensures.same c.args.self.now.watched;
      counts = c.args.self.now.counts;
      follows =
          follows-stop g.J.Naming.setup g.J.Naming.past c.args.self.now.round c.stop.new.self
          (record {
            setup_is = c.args.self.now.setup;
            past_is = c.args.self.now.past;
            valid = c.stop.ensures.valid.setup;
            in_order = c.stop.ensures.valid.in_order;
            follows = c.args.self.now.follows;
          })
          c.stop.ensures.event;
      issued =
          issued-stop g.J.Naming.tickets c.args.self.now.round c.stop.new.self c.args.self.now.issuer
          c.stop.ensures.valid.in_order c.stop.ensures.event c.args.self.now.issued;
    }
