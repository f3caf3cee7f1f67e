-- Answers to the goals that the check of `one_worker_comes_to_an_end` leaves open.
use Rattle.round_spec.proofs.Lone.{one_worker-permitted, one_worker-complete}
use Rattle.round_spec.proofs.Ending.{lone-ends, lone-discarded}
use Rattle.round_spec.proofs.one_worker_comes_to_an_end.Goals as goal

pub returns-clause-permitted : goal.returns-clause-permitted
returns-clause-permitted c = one_worker-permitted

pub returns-clause-complete : goal.returns-clause-complete
returns-clause-complete c = one_worker-complete

pub returns-clause-ends : goal.returns-clause-ends
returns-clause-ends c = lone-ends

pub returns-clause-discarded : goal.returns-clause-discarded
returns-clause-discarded c = lone-discarded
