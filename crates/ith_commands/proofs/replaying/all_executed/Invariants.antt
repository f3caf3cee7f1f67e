-- The invariant of the loop of `all_executed`.
use Rattle.std.proofs.Common.{◌≡◌, take}
use Rattle.rerun_spec.specs.Reports as reports
use Rattle.ith_commands.proofs.replaying.all_executed.Given as goal

-- the entries so far are those of the threads so far
abbrev pub invariant-loop-thread : goal.invariant-loop-thread
invariant-loop-thread l = l.entries.items ≡ reports.all_executed (take l.thread-index l.threads)
