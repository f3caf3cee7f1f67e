-- The law is a lemma.
use Rattle.guest_call.proofs.Kept.{act_kept}
use Rattle.guest_call.proofs.act_kept.Goals as goal

pub returns : goal.returns
returns c = act_kept
