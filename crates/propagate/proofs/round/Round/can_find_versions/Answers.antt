-- Answers to the goals that the check of `Round::can_find_versions` leaves open.
use Rattle.std.proofs.Common.{◌≡◌, ap, subst, sym, ◌∙◌}
use Rattle.round_spec.specs.Rounds.{RoundState}
use Rattle.machine_spec.specs.Setup.{Setup, first}
use Rattle.machine_spec.specs.Whole.{IsWhole}
use Rattle.known_pages.specs.Alike.{IsAsMarked, IsAsBefore}
use Rattle.propagate.proofs.Mapped.{comparable}
use Rattle.propagate.proofs.round.Round.can_find_versions.Goals as goal

pub returns-then-fuel : goal.returns-then-fuel
returns-then-fuel c =
    let w = c.args.self.now in
    let as_before : IsAsBefore w c.self.inside.marks =
    subst (λ (x : RoundState). IsAsBefore x c.self.inside.marks) c.self.view_is c.self.invariant.as_before in
    λ same.
    comparable w c.args.history.now c.in-Some.field-0
    (subst (IsAsMarked w) c.in-Some.is as_before.marked)
    c.requires
    (subst (λ (x : RoundState). IsWhole x.machine) c.self.view_is c.self.invariant.in_order.whole)
    (subst (λ (x : RoundState). x.machine.frame ≡ (first x.setup).frame) c.self.view_is c.self.invariant.framed)
    (ap (λ (s : Setup). s.fuel) (sym c.setup.ensures.setup) ∙ sym c.fuel.ensures.value ∙ c.if-fuel.true
    ∙ c.fuel-in-Some.ensures.value ∙ ap (λ (x : RoundState). x.setup.fuel) c.self.view_is)
    (c.has_same_map.ensures.same.0 same)
