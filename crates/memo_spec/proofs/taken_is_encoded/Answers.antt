use Rattle.std.proofs.Common.{arith}
use Rattle.memo_spec.proofs.Laws.{read_is_encoded}
use Rattle.memo_spec.proofs.taken_is_encoded.Goals as goal

pub returns : goal.returns
returns c = λ h. read_is_encoded c.args.bytes.now h (λ i. omega (arith, c.type_inv.bytes i))
