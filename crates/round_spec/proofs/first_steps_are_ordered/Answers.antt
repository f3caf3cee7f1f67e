-- Clocks determine what comes before.
use Rattle.round_spec.proofs.Sync.{ordered-tells}
use Rattle.round_spec.proofs.first_steps_are_ordered.Goals as goal

pub returns : goal.returns
returns c = λ fs i j earlier. ordered-tells fs i j
