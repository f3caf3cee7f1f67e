-- No step is past.
use Rattle.std.proofs.Common.{false, replicate, refl}
use Rattle.depend_graph.proofs.Reached.{all-zero, all-false}
use Rattle.depend_graph.proofs.reaching.Reached.new.Goals as goal

pub returns-clause-led : goal.returns-clause-led
returns-clause-led c = λ t. all-false (replicate 32 false) t refl

pub returns-clause-ends : goal.returns-clause-ends
returns-clause-ends c = λ t. all-zero (replicate 32 0) t refl
