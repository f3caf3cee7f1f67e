-- Answers to the goals that the check of `clocks_determine_who_is_due` leaves open.
use Rattle.round_spec.proofs.Clocked.{passed-clock}
use Rattle.round_spec.proofs.clocks_determine_who_is_due.Goals as goal

pub returns : goal.returns
returns c = passed-clock
