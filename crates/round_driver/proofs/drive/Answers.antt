-- Answers to the goals that the check of `drive` leaves open.
use Rattle.std.proofs.Common.{Option, Some, option_map, ap, sym, subst, ◌∙◌}
use Rattle.std.proofs.lemmas.List.{drop_all}
use Rattle.std.specs.Arc.{arc_value}
use Rattle.machine_spec.specs.Setup.{Setup}
use Rattle.history_spec.specs.History.{History}
use Rattle.round_spec.specs.Rounds.{all_happen, round_after}
use Rattle.round_spec.specs.Keeping.{IsFromScratch}
use Rattle.round_spec.specs.Reordering.{reuses_of, ReusesInOrder}
use Rattle.round_spec.proofs.Leaving.{round-scratch}
use Rattle.history_spec.specs.Facts.{facts}
use Rattle.history_spec.proofs.Places.{places-keep}
use Rattle.round_spec.proofs.Reusing.{reused-whole}
use Rattle.round_driver.proofs.drive.Goals as goal

pub returns-clause-scratch : goal.returns-clause-scratch
returns-clause-scratch c = λ sound.
    subst IsFromScratch
    (sym c.loop-event.invariant.0 ∙ ap (all_happen c.loop-event.driven.round)
    (drop_all c.loop-event.event-index c.args.events.now c.loop-event-test.false))
    (round-scratch c.args.setup (option_map arc_value c.args.past) c.args.events.now c.in_ok-driven.ensures.sound sound)

pub returns-clause-every_order : goal.returns-clause-every_order
returns-clause-every_order c = λ h places past unedited order are.
    subst (ReusesInOrder h places)
    (ap (λ (s : Setup). round_after s (Some h) (reuses_of h places)) unedited.same
    ∙ ap (λ (p : Option History). round_after c.args.setup p (reuses_of h places)) (sym past)
    ∙ ap (round_after c.args.setup (option_map arc_value c.args.past)) (sym are)
    ∙ sym c.loop-event.invariant.0 ∙ ap (all_happen c.loop-event.driven.round)
    (drop_all c.loop-event.event-index c.args.events.now c.loop-event-test.false))
    (reused-whole h places unedited.honest (places-keep (facts h) places order))
