-- Answers to the goals that the check of `header_page` leaves open.
use Rattle.std.proofs.Common.{refl}
use Rattle.machine_spec.specs.Setup.{header_page}
use Rattle.run_history.proofs.start.header_page.Goals as goal

pub returns : goal.returns
unfolding header_page
returns c = rw c.to_le_bytes.ensures refl
