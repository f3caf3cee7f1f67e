-- The law is a lemma.
use Rattle.guest_call.proofs.Conservation.{act_keeps}
use Rattle.guest_call.proofs.act_keeps.Goals as goal

pub returns : goal.returns
returns c = act_keeps
