-- The law is a lemma.
use Rattle.guest_call.proofs.Kept.{opening_kept}
use Rattle.guest_call.proofs.opening_is_kept.Goals as goal

pub returns : goal.returns
returns c = opening_kept
