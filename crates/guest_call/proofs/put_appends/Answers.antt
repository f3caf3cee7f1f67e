-- The law is a lemma.
use Rattle.guest_call.proofs.Kept.{put_answer-appends}
use Rattle.guest_call.proofs.put_appends.Goals as goal

pub returns : goal.returns
returns c = put_answer-appends
