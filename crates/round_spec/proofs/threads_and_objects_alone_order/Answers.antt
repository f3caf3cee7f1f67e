-- The facts without pages have these cases alone.
use Rattle.round_spec.proofs.Sync.{before-sync}
use Rattle.round_spec.proofs.threads_and_objects_alone_order.Goals as goal

pub returns : goal.returns
returns c = before-sync
