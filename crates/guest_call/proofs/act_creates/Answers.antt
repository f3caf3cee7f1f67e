-- The law is a lemma.
use Rattle.guest_call.proofs.Kept.{act_creates}
use Rattle.guest_call.proofs.act_creates.Goals as goal

pub returns : goal.returns
returns c = act_creates
