-- The law is a lemma.
use Rattle.edit_spec.specs.Grammar.{lines}
use Rattle.edit_spec.proofs.Saying.{one_thing}
use Rattle.edit_spec.proofs.list_says_one_thing.Goals as goal

pub returns : goal.returns
returns c = λ bytes. one_thing (lines bytes)
