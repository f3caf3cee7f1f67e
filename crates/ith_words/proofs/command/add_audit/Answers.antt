use Rattle.ith_words.specs.Words.{audit_command}
use Rattle.ith_words.proofs.command.add_audit.Goals as goal

pub returns-clause-shapes : goal.returns-clause-shapes
unfolding audit_command
returns-clause-shapes c = rw c.workers.ensures at c.add_command.ensures.shapes
