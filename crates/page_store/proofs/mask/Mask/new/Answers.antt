-- Answers to the goals that the check of `new` leaves open.
use Rattle.page_store.proofs.Marks.{flags_of-none}
use Rattle.page_store.proofs.mask.Mask.new.Goals as goal

pub returns : goal.returns
returns c = flags_of-none
