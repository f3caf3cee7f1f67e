-- AUIPC is read at its own address, and an operation that does the same at each address does so at this one.
use Rattle.std.proofs.Common.{refl}
use Rattle.rv_code.proofs.reading.operation_from.Goals as goal

pub returns-in-Auipc : goal.returns-in-Auipc
returns-in-Auipc c = λ word known.
    c.constant.ensures c.args.address _ (λ map memory r at zero. rw (c.in-Auipc.is, at) refl) word known

pub returns-in_default : goal.returns-in_default
returns-in_default c = c.operation_anywhere.ensures c.args.address
