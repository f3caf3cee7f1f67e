-- Thread 0 alone is a table.
use Rattle.sync_objects.proofs.TableOfThreads.{first_table}
use Rattle.sync_objects.proofs.threads.Threads.new.Goals as goal

pub invariant_of-result : goal.invariant_of-result
invariant_of-result c = rw (c.push.ensures.items, c.new-seats.ensures, c.default.ensures) first_table
