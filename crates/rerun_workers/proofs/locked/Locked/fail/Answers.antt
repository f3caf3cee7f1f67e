-- Answers to the goals that the check of `Locked::fail` leaves open.
use Rattle.std.proofs.Common.{◌∙◌}
use Rattle.rerun_workers.proofs.Under.{counted_on, watched_on}
use Rattle.rerun_workers.proofs.Following.{follows-given_up}
use Rattle.rerun_workers.proofs.Issued.{issued-given_up}
use Rattle.rerun_workers.proofs.locked.Locked.fail.Goals as goal

pub invariant_of-self : goal.invariant_of-self
invariant_of-self g c =
    record {
      counted = counted_on c.args.self.now.round _ _ c.give_up.ensures.same c.args.self.now.counted;
      setup = c.give_up.ensures.same.setup ∙ c.args.self.now.setup;
      past = c.give_up.ensures.same.past ∙ c.args.self.now.past;
      watched = watched_on c.args.self.now.round _ _ _ c.give_up.ensures.same c.args.self.now.watched;
      counts = c.args.self.now.counts;
      follows =
          follows-given_up g.J.Naming.setup g.J.Naming.past c.args.self.now.round c.give_up.new.round c.args.job.now.thread
          (record {
            setup_is = c.args.self.now.setup;
            past_is = c.args.self.now.past;
            valid = c.give_up.ensures.valid.setup;
            in_order = c.give_up.ensures.valid.in_order;
            follows = c.args.self.now.follows;
          })
          c.give_up.ensures.events;
      issued =
          issued-given_up g.J.Naming.tickets c.args.self.now.round c.give_up.new.round c.args.job.now.thread
          c.args.self.now.issuer c.give_up.ensures.valid.in_order c.give_up.ensures.events c.args.self.now.issued;
    }
