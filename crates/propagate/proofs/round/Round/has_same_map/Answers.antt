-- Answers to the goals that the check of `Round::has_same_map` leaves open.
use Rattle.std.proofs.Common.{option_map, ap, sym, subst, ◌∙◌}
use Rattle.std.specs.Arc.{arc_value}
use Rattle.elf_spec.specs.Image.{image_pages}
use Rattle.machine_spec.specs.Setup.{Setup}
use Rattle.history_spec.specs.History.{History, IsMapped}
use Rattle.round_spec.specs.Rounds.{RoundState}
use Rattle.propagate.specs.Consistency.{IsOnMap}
use Rattle.propagate.proofs.Mapped.{of_map, of_map-mapped, none_mapped}
use Rattle.propagate.proofs.round.Round.has_same_map.Goals as goal

pub returns-in-Some-clause-same : goal.returns-in-Some-clause-same
returns-in-Some-clause-same c =
    of_map c.args.self.now (arc_value c.in-Some.history) c.eq.result _ _
    (ap (λ (w : RoundState). w.past) (sym c.self.view_is) ∙ ap (option_map arc_value) c.in-Some.is)
    (c.image.ensures.map
    ∙ ap (λ (s : Setup). image_pages s.elf) (c.setup.ensures.setup ∙ ap (λ (h : History). h.setup) c.deref.ensures))
    (c.image-in-Some.ensures.map ∙ ap (λ (w : RoundState). image_pages w.setup.elf) c.self.view_is)
    c.eq.ensures.same

pub returns-in-Some-clause-mapped : goal.returns-in-Some-clause-mapped
returns-in-Some-clause-mapped c =
    of_map-mapped c.args.self.now (arc_value c.in-Some.history) c.eq.result _ _
    (subst IsOnMap c.self.view_is c.self.invariant.on_map)
    (ap (λ (w : RoundState). w.past) (sym c.self.view_is) ∙ ap (option_map arc_value) c.in-Some.is)
    (subst IsMapped c.deref.ensures c.setup.ensures.mapped)
    (c.image.ensures.map
    ∙ ap (λ (s : Setup). image_pages s.elf) (c.setup.ensures.setup ∙ ap (λ (h : History). h.setup) c.deref.ensures))
    (c.image-in-Some.ensures.map ∙ ap (λ (w : RoundState). image_pages w.setup.elf) c.self.view_is)
    c.eq.ensures.same.0

pub returns-in-None-clause-mapped : goal.returns-in-None-clause-mapped
returns-in-None-clause-mapped c =
    none_mapped c.args.self.now (subst IsOnMap c.self.view_is c.self.invariant.on_map)
    (ap (λ (w : RoundState). w.past) (sym c.self.view_is) ∙ ap (option_map arc_value) c.in-None.is)
