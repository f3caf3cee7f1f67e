-- Answers to the goals that the check of `new` leaves open.
use Rattle.memo_file.proofs.Counting.{no_counts}
use Rattle.memo_file.proofs.growth.Growing.new.Goals as goal

pub invariant_of-result : goal.invariant_of-result
invariant_of-result c = rw c.new.ensures no_counts
