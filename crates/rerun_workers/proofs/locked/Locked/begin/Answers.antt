-- Answers to the goals that the check of `Locked::begin` leaves open.
use Rattle.std.proofs.Common.{ap, ◌∙◌}
use Rattle.machine_spec.specs.Setup.{Setup, first}
use Rattle.round_spec.specs.declared.events.Event.TheVariants.{Stop}
use Rattle.round_spec.specs.Rounds.{RoundState, happens}
use Rattle.rerun_workers.proofs.Under.{counted_on, watched_on}
use Rattle.rerun_workers.proofs.Following.{follows-take, follows-stop, never-begins}
use Rattle.rerun_workers.proofs.Issued.{issued-take, issued-stop}
use Rattle.rerun_workers.proofs.locked.Locked.begin.Goals as goal

pub invariant_of-self : goal.invariant_of-self
invariant_of-self g c =
    record {
      counted = counted_on c.args.self.now.round _ _ c.take.ensures.same c.args.self.now.counted;
      setup = c.take.ensures.same.setup ∙ c.args.self.now.setup;
      past = c.take.ensures.same.past ∙ c.args.self.now.past;
      watched = watched_on c.args.self.now.round _ _ _ c.take.ensures.same c.args.self.now.watched;
      counts = c.args.self.now.counts;
      follows =
          follows-take g.J.Naming.setup g.J.Naming.past c.args.self.now.round c.take.new.self c.args.t
          (record {
            setup_is = c.args.self.now.setup;
            past_is = c.args.self.now.past;
            valid = c.take.ensures.valid.setup;
            in_order = c.take.ensures.valid.in_order;
            follows = c.args.self.now.follows;
          })
          c.requires.picked c.in-Ok.ensures.ok;
      issued =
          issued-take g.J.Naming.tickets c.args.self.now.round c.take.new.self c.args.t c.in-Ok.job c.issue.result
          c.args.self.now.issuer c.issue.new.self c.in-Ok.ensures.ok c.in-Ok.ensures.job c.issue.ensures.book
          c.issue.ensures.job c.issue.ensures.last c.args.self.now.issued;
    }

pub invariant_of-self-in-Err : goal.invariant_of-self-in-Err
invariant_of-self-in-Err g c =
    record {
      counted = counted_on c.take.new.self _ _ c.stop.ensures.same
          (counted_on c.args.self.now.round _ _ c.take.ensures.same c.args.self.now.counted);
      setup = c.stop.ensures.same.setup ∙ c.take.ensures.same.setup ∙ c.args.self.now.setup;
      past = c.stop.ensures.same.past ∙ c.take.ensures.same.past ∙ c.args.self.now.past;
      watched = watched_on c.take.new.self _ _ _ c.stop.ensures.same
          (watched_on c.args.self.now.round _ _ _ c.take.ensures.same c.args.self.now.watched);
      counts = c.args.self.now.counts;
      follows =
          follows-stop g.J.Naming.setup g.J.Naming.past c.args.self.now.round c.stop.new.self
          (record {
            setup_is = c.args.self.now.setup;
            past_is = c.args.self.now.past;
            valid = c.take.ensures.valid.setup;
            in_order = c.take.ensures.valid.in_order;
            follows = c.args.self.now.follows;
          })
          (c.stop.ensures.event ∙ ap (λ (w : RoundState). happens w Stop) c.in-Err.ensures.err);
      issued =
          issued-stop g.J.Naming.tickets c.args.self.now.round c.stop.new.self c.args.self.now.issuer
          c.take.ensures.valid.in_order
          (c.stop.ensures.event ∙ ap (λ (w : RoundState). happens w Stop) c.in-Err.ensures.err) c.args.self.now.issued;
    }

pub returns-in-Ok-clause-unedited : goal.returns-in-Ok-clause-unedited
returns-in-Ok-clause-unedited g c =
    λ h past unedited.
    absurd (never-begins g.J.Naming.setup g.J.Naming.past c.args.self.now.round c.args.t h
    c.args.self.now.follows c.requires.picked past unedited)

pub returns-in-Ok-clause-own : goal.returns-in-Ok-clause-own
returns-in-Ok-clause-own g c =
    c.in-Ok.ensures.job.frame ∙ c.take.ensures.valid.framed ∙ ap (λ (s : Setup). (first s).frame) c.args.self.now.setup
