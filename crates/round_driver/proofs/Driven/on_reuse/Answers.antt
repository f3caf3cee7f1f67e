-- Answers to the goals that the check of `Driven::on_reuse` leaves open.
use Rattle.std.proofs.Common.{sym, ◌∙◌}
use Rattle.round_spec.proofs.Conditions.{happens-reuse_not}
use Rattle.round_driver.proofs.Jobs.{jobs-reuse}
use Rattle.round_driver.proofs.Driven.on_reuse.Goals as goal

pub returns-then-not-can_reuse-clause-round : goal.returns-then-not-can_reuse-clause-round
returns-then-not-can_reuse-clause-round c =
    sym (happens-reuse_not c.args.self.now.round c.args.t (sym c.can_reuse.ensures.can ∙ c.if-not-can_reuse.true))

pub invariant_of-self : goal.invariant_of-self
invariant_of-self c =
    record {
      held = jobs-reuse c.args.self.now.round c.reuse.new.self c.args.t c.args.self.now.jobs c.reuse.result
          c.can_reuse.ensures.valid.in_order c.reuse.ensures.ok c.reuse.ensures.err c.args.self.now.held;
    }
