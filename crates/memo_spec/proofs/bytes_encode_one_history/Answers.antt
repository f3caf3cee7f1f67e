use Rattle.memo_spec.proofs.Laws.{one_history}
use Rattle.memo_spec.proofs.bytes_encode_one_history.Goals as goal

pub returns : goal.returns
returns c = one_history
