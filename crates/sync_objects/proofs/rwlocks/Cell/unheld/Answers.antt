-- No thread is a reader.
use Rattle.std.proofs.Common.{rules}
use Rattle.guest_call.specs.RwLocks.{no_readers}
use Rattle.sync_objects.proofs.rwlocks.Cell.unheld.Goals as goal

pub returns : goal.returns
unfolding no_readers
returns c = search rules
