use Rattle.ith_words.specs.Words.{replay_command}
use Rattle.ith_words.proofs.command.add_replay.Goals as goal

pub returns-clause-shapes : goal.returns-clause-shapes
unfolding replay_command
returns-clause-shapes c = rw (c.fuel.ensures, c.steps.ensures) at c.add_command.ensures.shapes
