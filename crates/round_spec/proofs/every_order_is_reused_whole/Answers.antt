-- Answers to the goals that the check of `every_order_is_reused_whole` leaves open.
use Rattle.history_spec.specs.Facts.{facts}
use Rattle.history_spec.proofs.Places.{places-keep}
use Rattle.round_spec.proofs.Reusing.{reused-whole}
use Rattle.round_spec.proofs.every_order_is_reused_whole.Goals as goal

pub returns : goal.returns
returns c = λ h places honest order. reused-whole h places honest (places-keep (facts h) places order)
