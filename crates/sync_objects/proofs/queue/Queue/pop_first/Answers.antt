-- The threads that stay are threads.
use Rattle.std.proofs.Common.{◌≡◌, rules}
use Rattle.sync_objects.specs.Queue.{popped}
use Rattle.sync_objects.proofs.QueueThreads.{popped_are_threads}
use Rattle.sync_objects.proofs.queue.Queue.pop_first.Goals as goal

pub invariant_of-self : goal.invariant_of-self
invariant_of-self c =
    let old = c.self.inside.threads.items in
    let first = c.pop_at.result in
    let rest = c.pop_at.new.self.items in
    let is : (first, rest) ≡ popped old = search rules in
    popped_are_threads first old rest is c.self.invariant
