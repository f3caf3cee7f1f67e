-- Answers to the goals that the check of `every_beginning_goes_on` leaves open.
use Rattle.history_spec.proofs.Honest.{begin-leads}
use Rattle.history_spec.proofs.every_beginning_goes_on.Goals as goal

pub returns : goal.returns
returns c = λ h schedule honest begin. begin-leads h schedule honest begin
