-- Answers to the goals that the check of `every_order_leads_to_the_same` leaves open.
use Rattle.history_spec.specs.Facts.{facts}
use Rattle.history_spec.proofs.Every.{keeps-begin}
use Rattle.history_spec.proofs.Honest.{honest-threads, begin-leads}
use Rattle.history_spec.proofs.every_order_leads_to_the_same.Goals as goal

pub returns-clause-schedule : goal.returns-clause-schedule
returns-clause-schedule c = λ h schedule honest keep. honest-threads h schedule keep

pub returns-clause-same : goal.returns-clause-same
returns-clause-same c = λ h schedule honest keep.
    begin-leads h schedule honest (keeps-begin (facts h) schedule keep)
