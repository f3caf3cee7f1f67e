-- Answers to the goals that the check of `places_determine_who_is_due` leaves open.
use Rattle.std.proofs.Common.{Some}
use Rattle.machine_spec.specs.Machine.{hart_of}
use Rattle.history_spec.specs.Facts.{facts}
use Rattle.round_spec.specs.Due.{place_in}
use Rattle.round_spec.proofs.Placed.{absent-due, placed-due, placed-step, step-thread, step-number}
use Rattle.round_spec.proofs.places_determine_who_is_due.Goals as goal

pub returns-clause-absent : goal.returns-clause-absent
returns-clause-absent c = absent-due

pub returns-clause-present : goal.returns-clause-present
returns-clause-present c = placed-due

pub returns-clause-thread : goal.returns-clause-thread
returns-clause-thread c = λ h m t right near.
    step-thread (facts h) t (hart_of m t).number (place_in (Some h) m t) (placed-step h m t right near)

pub returns-clause-number : goal.returns-clause-number
returns-clause-number c = λ h m t right near.
    step-number (facts h) t (hart_of m t).number (place_in (Some h) m t) (placed-step h m t right near)
