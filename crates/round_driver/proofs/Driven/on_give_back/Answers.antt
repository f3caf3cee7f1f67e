-- Answers to the goals that the check of `Driven::on_give_back` leaves open.
use Rattle.std.proofs.Common.{sym, ◌∙◌}
use Rattle.round_spec.specs.declared.events.Event.TheVariants.{GiveBack}
use Rattle.round_spec.proofs.Conditions.{happens-give_back_not}
use Rattle.round_driver.proofs.Jobs.{jobs-stay}
use Rattle.round_driver.proofs.Driven.on_give_back.Goals as goal

pub invariant_of-self : goal.invariant_of-self
invariant_of-self c =
    record {
      held = jobs-stay c.args.self.now.round c.give_back.new.self (GiveBack c.args.t) c.args.self.now.jobs tt
          c.is_in_flight.ensures.valid.in_order c.give_back.ensures.event c.args.self.now.held;
    }

pub returns-else-is_in_flight-clause-round : goal.returns-else-is_in_flight-clause-round
returns-else-is_in_flight-clause-round c =
    sym (happens-give_back_not c.args.self.now.round c.args.t (sym c.is_in_flight.ensures.in_flight ∙ c.if-is_in_flight.false))
