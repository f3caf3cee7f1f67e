-- Answers to the goals that the check of `Driven::on_take` leaves open.
use Rattle.std.proofs.Common.{Some, set, sym, subst, ◌∙◌}
use Rattle.round_spec.proofs.Conditions.{happens-take_not}
use Rattle.round_driver.specs.Jobs.{HaveJobs}
use Rattle.round_driver.proofs.Jobs.{jobs-take}
use Rattle.round_driver.proofs.Driven.on_take.Goals as goal

pub returns-then-not-can_take-clause-round : goal.returns-then-not-can_take-clause-round
returns-then-not-can_take-clause-round c =
    sym (happens-take_not c.args.self.now.round c.args.t (sym c.can_take.ensures.can ∙ c.if-not-can_take.true))

pub invariant_of-self-2 : goal.invariant_of-self-2
invariant_of-self-2 c =
    record {
      held =
          subst (λ k. HaveJobs c.take.new.self (set c.args.self.now.jobs k (Some c.in_ok-job.job))) (sym c.from.ensures)
          (jobs-take c.args.self.now.round c.take.new.self c.args.t c.args.self.now.jobs c.in_ok-job.job
          (sym c.can_take.ensures.can ∙ c.if-not-can_take.false) c.can_take.ensures.valid.in_order c.in_ok-job.ensures.ok
          c.in_ok-job.ensures.job c.args.self.now.held);
    }
