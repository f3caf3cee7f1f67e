-- Answers to the goals that the check of `every_list_says_something` leaves open.
use Rattle.edit_spec.specs.Grammar.{lines}
use Rattle.edit_spec.proofs.Deciding.{lines-say}
use Rattle.edit_spec.proofs.every_list_says_something.Goals as goal

pub returns : goal.returns
returns c = λ bytes. lines-say (lines bytes)
