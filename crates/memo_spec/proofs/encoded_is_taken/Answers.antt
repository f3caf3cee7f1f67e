use Rattle.memo_spec.proofs.Laws.{encoded_is_read}
use Rattle.memo_spec.proofs.encoded_is_taken.Goals as goal

pub returns : goal.returns
returns c = encoded_is_read
