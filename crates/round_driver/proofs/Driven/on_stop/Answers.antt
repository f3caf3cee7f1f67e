-- Answers to the goals that the check of `Driven::on_stop` leaves open.
use Rattle.round_spec.specs.declared.events.Event.TheVariants.{Stop}
use Rattle.round_driver.proofs.Jobs.{jobs-stay}
use Rattle.round_driver.proofs.Driven.on_stop.Goals as goal

pub invariant_of-self : goal.invariant_of-self
invariant_of-self c =
    record {
      held = jobs-stay c.args.self.now.round c.stop.new.self Stop c.args.self.now.jobs tt
          c.stop.ensures.valid.in_order c.stop.ensures.event c.args.self.now.held;
    }
