use Rattle.ith_words.specs.Words.{show_command}
use Rattle.ith_words.proofs.command.add_show.Goals as goal

pub returns-clause-shapes : goal.returns-clause-shapes
unfolding show_command
returns-clause-shapes c = c.add_command.ensures.shapes
