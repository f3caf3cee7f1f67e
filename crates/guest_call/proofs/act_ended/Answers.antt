-- The law is a lemma.
use Rattle.guest_call.proofs.Kept.{act_ended}
use Rattle.guest_call.proofs.act_ended.Goals as goal

pub returns : goal.returns
returns c = act_ended
