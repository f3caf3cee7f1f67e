-- The law is lemmas.
use Rattle.guest_gen.proofs.Inputs.{length-input_of, length-next_of}
use Rattle.guest_gen.proofs.inputs_have_one_length.Goals as goal

pub returns-clause-before : goal.returns-clause-before
returns-clause-before c = length-input_of

pub returns-clause-after : goal.returns-clause-after
returns-clause-after c = length-next_of
