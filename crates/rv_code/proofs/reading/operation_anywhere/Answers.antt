-- Each form was read so.
use Rattle.std.proofs.Common.{Some, refl, ap, ◌∙◌}
use Rattle.rv_code.proofs.reading.operation_anywhere.Goals as goal

pub returns-in-Lui : goal.returns-in-Lui
returns-in-Lui c = λ address word known.
    c.constant.ensures address _ (λ map memory r at zero. rw c.in-Lui.is refl) word known

pub returns-in-Jalr : goal.returns-in-Jalr
returns-in-Jalr c = λ address word known. c.jump_to_register.ensures address word (known ∙ ap Some c.in-Jalr.is)

pub returns-in-Load : goal.returns-in-Load
returns-in-Load c = λ address word known. c.load_from.ensures address word (known ∙ ap Some c.in-Load.is)

pub returns-in-Store : goal.returns-in-Store
returns-in-Store c = λ address word known. c.store_to.ensures address word (known ∙ ap Some c.in-Store.is)

pub returns-in-Immediate : goal.returns-in-Immediate
returns-in-Immediate c = λ address word known. c.immediate.ensures address word (known ∙ ap Some c.in-Immediate.is)

pub returns-in-Shift : goal.returns-in-Shift
returns-in-Shift c = λ address word known. c.shift_by.ensures address word (known ∙ ap Some c.in-Shift.is)

pub returns-in-Register : goal.returns-in-Register
returns-in-Register c = λ address word known. c.register.ensures address word (known ∙ ap Some c.in-Register.is)
