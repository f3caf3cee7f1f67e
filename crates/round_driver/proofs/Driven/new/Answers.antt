-- Answers to the goals that the check of `Driven::new` leaves open.
use Rattle.std.proofs.Common.{ap}
use Rattle.round_spec.specs.Rounds.{RoundState}
use Rattle.round_driver.proofs.Jobs.{jobs-none}
use Rattle.round_driver.proofs.Driven.new.Goals as goal

pub invariant_of-result : goal.invariant_of-result
invariant_of-result c =
    record {
      held = jobs-none c.in_ok-round.round c.from_fn.result c.from_fn.ensures.items.long
          (ap (λ (w : RoundState). w.in_flight) c.in_ok-round.ensures.round);
    }
