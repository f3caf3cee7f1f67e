-- Answers to the goals that the check of `Locked::commit_taken` leaves open.
use Rattle.std.proofs.Common.{◌+◌, ap, sym, subst, ◌∙◌, Option, arith}
use Rattle.std.specs.Arc.{arc_value}
use Rattle.machine_spec.specs.Setup.{Setup, first}
use Rattle.rerun_workers.proofs.Under.{counted_on, counted_more, watched_on, watched_more}
use Rattle.rerun_workers.proofs.Following.{IsUnder, follows-commit, follows-give_back, follows-given_up}
use Rattle.logbook.specs.Pages.{Book}
use Rattle.shared_words.specs.TicketViews.{TicketView}
use Rattle.round_spec.specs.Rounds.{RoundState}
use Rattle.round_spec.specs.Keeping.{IsInOrder}
use Rattle.rerun_workers.specs.Tickets.{AreIssued, IsNamed, IsRunOfTicket}
use Rattle.rerun_workers.proofs.Issued.{issued-commit, issued-give_back, issued-given_up}
use Rattle.rerun_workers.proofs.locked.Locked.commit_taken.Goals as goal

pub commit_run-requires : goal.commit_run-requires
commit_run-requires g c =
    let named = c.args.self.now.issued.named in
    record {
      own = c.requires.own ∙ ap (λ (s : Setup). (first s).frame) (sym c.args.self.now.setup);
      issued = subst (λ (book : Book). AreIssued book c.args.self.now.round c.args.self.now.issuer) (sym named) c.args.self.now.issued;
      named =
          subst (IsNamed c.args.self.now.issuer.book) (sym c.take.ensures.value)
          (subst (λ (book : Book). IsNamed book c.args.pass.now.ticket) (sym named) c.args.pass.now.ticketed);
      ticket =
          subst (λ (ticket : Option TicketView). IsRunOfTicket ticket c.args.run) (sym c.take.ensures.value)
          c.requires.ticket;
    }

pub invariant_of-pass : goal.invariant_of-pass
invariant_of-pass g c =
    let pass = c.args.pass.now in
    let counted = pass.counted in
    record {
      one = c.add.ensures.parts ∙ c.audit.ensures.parts ∙ pass.one;
      counted = omega (arith, counted, c.add.ensures.amount, c.audit.ensures.amount);
      own = pass.own;
      named = pass.named;
      ticketed = subst (IsNamed g.J.Naming.tickets) (sym c.take.ensures.after) tt;
      edited = pass.edited;
      once = pass.once;
      idle = pass.idle;
      spares = pass.spares;
    }

pub invariant_of-self : goal.invariant_of-self
invariant_of-self g c =
    record {
      counted =
          counted_more c.args.self.now.round _ _ _ c.in-Done.ensures.same
          (c.add.ensures.total ∙ ap (λ n. n + 1) c.audit.ensures.total) c.args.self.now.counted;
      setup = c.in-Done.ensures.same.setup ∙ c.args.self.now.setup;
      past = c.in-Done.ensures.same.past ∙ c.args.self.now.past;
      watched = watched_more c.args.self.now.round _ _ _ _ c.in-Done.ensures.same c.count.ensures.counts c.args.self.now.watched;
      counts = λ some. c.count.ensures.some ∙ c.args.self.now.counts some;
      follows =
          follows-commit g.J.Naming.setup g.J.Naming.past c.args.self.now.round c.commit_run.new.round
          (arc_value c.args.run.rec).thread
          (record {
            setup_is = c.args.self.now.setup;
            past_is = c.args.self.now.past;
            valid = c.commit_run.ensures.valid.setup;
            in_order = c.commit_run.ensures.valid.in_order;
            follows = c.args.self.now.follows;
          })
          c.in-Done.ensures.does.1;
      issued =
          issued-commit g.J.Naming.tickets c.args.self.now.round c.commit_run.new.round (arc_value c.args.run.rec).thread
          c.args.self.now.issuer c.commit_run.ensures.valid.in_order c.in-Done.ensures.does.1 c.args.self.now.issued;
    }

pub invariant_of-self-in-Stale-1 : goal.invariant_of-self-in-Stale-1
invariant_of-self-in-Stale-1 g c =
    record {
      counted =
          counted_on c.args.self.now.round _ _ c.in-Stale.ensures.same
          (c.args.self.now.counted ∙ sym c.audit.ensures.total);
      setup = c.in-Stale.ensures.same.setup ∙ c.args.self.now.setup;
      past = c.in-Stale.ensures.same.past ∙ c.args.self.now.past;
      watched = watched_on c.args.self.now.round _ _ _ c.in-Stale.ensures.same c.args.self.now.watched;
      counts = c.args.self.now.counts;
      follows =
          follows-give_back g.J.Naming.setup g.J.Naming.past c.args.self.now.round c.commit_run.new.round
          (arc_value c.args.run.rec).thread
          (record {
            setup_is = c.args.self.now.setup;
            past_is = c.args.self.now.past;
            valid = c.commit_run.ensures.valid.setup;
            in_order = c.commit_run.ensures.valid.in_order;
            follows = c.args.self.now.follows;
          })
          c.in-Stale.ensures.does.2;
      issued =
          issued-give_back g.J.Naming.tickets c.args.self.now.round c.commit_run.new.round (arc_value c.args.run.rec).thread
          c.args.self.now.issuer c.commit_run.ensures.valid.in_order c.in-Stale.ensures.does.2 c.args.self.now.issued;
    }

pub invariant_of-self-in-NoMemory : goal.invariant_of-self-in-NoMemory
invariant_of-self-in-NoMemory g c =
    record {
      counted =
          counted_on c.commit_run.new.round _ _ c.give_up.ensures.same
          (counted_on c.args.self.now.round _ _ c.in-NoMemory.ensures.same
          (c.args.self.now.counted ∙ sym c.audit.ensures.total));
      setup = c.give_up.ensures.same.setup ∙ c.in-NoMemory.ensures.same.setup ∙ c.args.self.now.setup;
      past = c.give_up.ensures.same.past ∙ c.in-NoMemory.ensures.same.past ∙ c.args.self.now.past;
      watched = watched_on c.commit_run.new.round _ _ _ c.give_up.ensures.same
          (watched_on c.args.self.now.round _ _ _ c.in-NoMemory.ensures.same c.args.self.now.watched);
      counts = c.args.self.now.counts;
      follows =
          follows-given_up g.J.Naming.setup g.J.Naming.past c.commit_run.new.round c.give_up.new.round _
          (subst (IsUnder g.J.Naming.setup g.J.Naming.past) (sym c.in-NoMemory.ensures.does.2)
          (record {
            setup_is = c.args.self.now.setup;
            past_is = c.args.self.now.past;
            valid = c.commit_run.ensures.valid.setup;
            in_order = c.commit_run.ensures.valid.in_order;
            follows = c.args.self.now.follows;
          }))
          c.give_up.ensures.events;
      issued =
          let same = sym c.in-NoMemory.ensures.does.2 in
          issued-given_up g.J.Naming.tickets c.commit_run.new.round c.give_up.new.round _ c.args.self.now.issuer
          (subst IsInOrder same c.commit_run.ensures.valid.in_order) c.give_up.ensures.events
          (subst (λ (w : RoundState). AreIssued g.J.Naming.tickets w c.args.self.now.issuer) same c.args.self.now.issued);
    }
