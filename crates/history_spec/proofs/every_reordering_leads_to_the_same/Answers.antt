-- Answers to the goals that the check of `every_reordering_leads_to_the_same` leaves open.
use Rattle.history_spec.proofs.Arranged.{places-threads, places-lead}
use Rattle.history_spec.proofs.every_reordering_leads_to_the_same.Goals as goal

pub returns-clause-threads : goal.returns-clause-threads
returns-clause-threads c = λ h places honest order. places-threads h places honest order

pub returns-clause-same : goal.returns-clause-same
returns-clause-same c = λ h places honest order. places-lead h places honest order
