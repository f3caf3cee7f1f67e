use Rattle.ith_words.specs.Words.{run_command}
use Rattle.ith_words.proofs.command.add_run.Goals as goal

pub returns-clause-shapes : goal.returns-clause-shapes
unfolding run_command
returns-clause-shapes c = rw c.round_options.ensures at c.add_command.ensures.shapes
