use Rattle.ith_words.specs.Words.{explain_command}
use Rattle.ith_words.proofs.command.add_explain.Goals as goal

pub returns-clause-shapes : goal.returns-clause-shapes
unfolding explain_command
returns-clause-shapes c = c.add_command.ensures.shapes
