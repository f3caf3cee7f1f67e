use Rattle.std.proofs.Common.{refl, sym, ◌∙◌}
use Rattle.memo_spec.proofs.history_has_one_encoding.Goals as goal

pub returns-clause-one : goal.returns-clause-one
returns-clause-one c = λ format a b h p q. p.is ∙ sym q.is

pub returns-clause-some : goal.returns-clause-some
returns-clause-some c = λ format h fit. record { fits = fit; is = refl }
