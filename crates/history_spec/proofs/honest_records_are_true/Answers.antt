-- Answers to the goals that the check of `honest_records_are_true` leaves open.
use Rattle.std.proofs.lemmas.List.Elements.{All-from_recursion}
use Rattle.machine_spec.specs.Setup.{first}
use Rattle.history_spec.proofs.Truth.{IsTrueIn, honest-true}
use Rattle.history_spec.proofs.honest_records_are_true.Goals as goal

pub returns : goal.returns
returns c = λ h honest. All-from_recursion (IsTrueIn (first h.setup).frame) h.records (honest-true h honest)
