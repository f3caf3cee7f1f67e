use Rattle.ith_words.specs.Words.{generate_command}
use Rattle.ith_words.proofs.command.add_generate.Goals as goal

pub returns-clause-shapes : goal.returns-clause-shapes
unfolding generate_command
returns-clause-shapes c = rw c.workers.ensures at c.add_command.ensures.shapes
