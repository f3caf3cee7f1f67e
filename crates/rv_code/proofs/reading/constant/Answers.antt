-- A value for x0 is dropped.
use Rattle.rv_code.proofs.Standing.{nothing_stands}
use Rattle.rv_code.proofs.reading.constant.Goals as goal

pub returns-then-rd-eq0 : goal.returns-then-rd-eq0
returns-then-rd-eq0 c = λ address i puts word known.
    nothing_stands address word i c.args.rd c.if-rd-eq0.true known
    (λ map memory r at zero. (c.args.value, puts map memory r at zero))
