-- Answers to the goals that the check of the law leaves open.
use Rattle.std.proofs.Common.{Bool, if◌then◌else◌, Ok, Err, ap}
use Rattle.guest_gen.specs.Generated.{next_of}
use Rattle.guest_gen.proofs.Inputs.{edit-in_range}
use Rattle.guest_gen.proofs.edit_is_done.Goals as goal

pub returns : goal.returns
returns c = λ number. ap (λ (beyond : Bool). if beyond then Err 1 else Ok (next_of number)) (edit-in_range number)
