use Rattle.ith_words.specs.Words.{races_command}
use Rattle.ith_words.proofs.command.add_races.Goals as goal

pub returns-clause-shapes : goal.returns-clause-shapes
unfolding races_command
returns-clause-shapes c = c.add_command.ensures.shapes
