use Rattle.ith_words.specs.Words.{rerun_command}
use Rattle.ith_words.proofs.command.add_rerun.Goals as goal

pub returns-clause-shapes : goal.returns-clause-shapes
unfolding rerun_command
returns-clause-shapes c = rw c.round_options.ensures at c.add_command.ensures.shapes
