-- Answers to the goals that the check of `Locked::reuse` leaves open.
use Rattle.std.proofs.Common.{◌+◌, ap, sym, subst, ◌∙◌, arith}
use Rattle.round_spec.specs.Rounds.{RoundState}
use Rattle.rerun_workers.specs.Following.{FollowsPicks}
use Rattle.rerun_workers.specs.Tickets.{AreIssued}
use Rattle.rerun_workers.proofs.Under.{counted_on, counted_more, watched_on, watched_more}
use Rattle.rerun_workers.proofs.Following.{follows-reuse}
use Rattle.rerun_workers.proofs.Issued.{issued-reuse}
use Rattle.rerun_workers.proofs.locked.Locked.reuse.Goals as goal

pub invariant_of-self : goal.invariant_of-self
invariant_of-self g c =
    let failed = c.in_err-reuse.ensures in
    let round = c.args.self.now.round in
    record {
      counted = counted_on round _ _ failed.same (c.args.self.now.counted ∙ sym c.audit.ensures.total);
      setup = failed.same.setup ∙ c.args.self.now.setup;
      past = failed.same.past ∙ c.args.self.now.past;
      watched = watched_on round _ _ _ failed.same c.args.self.now.watched;
      counts = c.args.self.now.counts;
      follows = subst (FollowsPicks g.J.Naming.setup g.J.Naming.past) (sym failed.err) c.args.self.now.follows;
      issued =
          subst (λ (w : RoundState). AreIssued g.J.Naming.tickets w c.args.self.now.issuer) (sym failed.err)
          c.args.self.now.issued;
    }

pub invariant_of-pass-2 : goal.invariant_of-pass-2
invariant_of-pass-2 g c =
    let pass = c.args.pass.now in
    let counted = pass.counted in
    record {
      one = c.add.ensures.parts ∙ c.audit.ensures.parts ∙ pass.one;
      counted = omega (arith, counted, c.add.ensures.amount, c.audit.ensures.amount);
      own = pass.own;
      named = pass.named;
      ticketed = pass.ticketed;
      edited = pass.edited;
      once = pass.once;
      idle = pass.idle;
      spares = pass.spares;
    }

pub invariant_of-self-2 : goal.invariant_of-self-2
invariant_of-self-2 g c =
    record {
      counted =
          counted_more c.args.self.now.round _ _ _ c.in_ok-reuse.ensures.same
          (c.add.ensures.total ∙ ap (λ n. n + 1) c.audit.ensures.total) c.args.self.now.counted;
      setup = c.in_ok-reuse.ensures.same.setup ∙ c.args.self.now.setup;
      past = c.in_ok-reuse.ensures.same.past ∙ c.args.self.now.past;
      watched = watched_more c.args.self.now.round _ _ _ _ c.in_ok-reuse.ensures.same c.count.ensures.counts c.args.self.now.watched;
      counts = λ some. c.count.ensures.some ∙ c.args.self.now.counts some;
      follows =
          follows-reuse g.J.Naming.setup g.J.Naming.past c.args.self.now.round c.reuse.new.self c.args.t
          (record {
            setup_is = c.args.self.now.setup;
            past_is = c.args.self.now.past;
            valid = c.reuse.ensures.valid.setup;
            in_order = c.reuse.ensures.valid.in_order;
            follows = c.args.self.now.follows;
          })
          c.requires.picked c.in_ok-reuse.ensures.ok;
      issued =
          issued-reuse g.J.Naming.tickets c.args.self.now.round c.reuse.new.self c.args.t c.args.self.now.issuer
          c.reuse.ensures.valid.in_order c.in_ok-reuse.ensures.ok c.args.self.now.issued;
    }
