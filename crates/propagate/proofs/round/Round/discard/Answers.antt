-- Answers to the goals that the check of `Round::discard` leaves open.
use Rattle.std.proofs.Common.{◌≡◌, true, refl, add-one, sym, subst, ◌∙◌, arith}
use Rattle.std.proofs.lemmas.Grind.{common_steps}
use Rattle.round_spec.specs.Rounds.{RoundState, is_in_flight}
use Rattle.round_spec.proofs.Conditions.{happens-give_back, happens-give_back_not}
use Rattle.propagate.proofs.Making.{discarded-kept}
use Rattle.propagate.proofs.round.Round.discard.Goals as goal

pub returns-then-is_in_flight-clause-event : goal.returns-then-is_in_flight-clause-event
returns-then-is_in_flight-clause-event c =
    rw (happens-give_back c.args.self.now c.args.t (sym c.is_in_flight.ensures.in_flight ∙ c.if-is_in_flight.true))
    (grind (arith, common_steps))

pub returns-else-is_in_flight-clause-event : goal.returns-else-is_in_flight-clause-event
returns-else-is_in_flight-clause-event c =
    sym (happens-give_back_not c.args.self.now c.args.t (sym c.is_in_flight.ensures.in_flight ∙ c.if-is_in_flight.false))

pub invariant_of-self : goal.invariant_of-self
invariant_of-self c =
    discarded-kept _ _ _ c.args.t _ _ _ c.self.invariant
    (subst (λ (w : RoundState). is_in_flight w c.args.t ≡ true) (sym c.self.view_is)
    (sym c.is_in_flight.ensures.in_flight ∙ c.if-is_in_flight.true))
    (rw (c.from.ensures, c.from-then-is_in_flight.ensures, c.saturating_add-self-inside.ensures, add-one) refl)
