-- A result for x0 is dropped.
use Rattle.std.proofs.Common.{refl}
use Rattle.rv_code.proofs.Standing.{nothing_stands}
use Rattle.rv_code.proofs.reading.shift_by.Goals as goal

pub returns-then-rd-eq0 : goal.returns-then-rd-eq0
returns-then-rd-eq0 c = λ address word known.
    nothing_stands address word _ c.args.rd c.if-rd-eq0.true known (λ map memory r at zero. (_, refl))
