-- The law is a lemma.
use Rattle.guest_call.proofs.Local.{act_local}
use Rattle.guest_call.proofs.act_is_local.Goals as goal

pub returns : goal.returns
returns c = act_local
