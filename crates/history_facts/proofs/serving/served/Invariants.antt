-- The invariant of the loop of `served`.
use Rattle.std.proofs.Common.{◌≡◌, ◌++◌, drop}
use Rattle.history_spec.specs.Facts.{returning}
use Rattle.history_facts.proofs.serving.served.Given as goal

-- the threads so far, with the woken ones that remain
abbrev pub invariant-loop-thread : goal.invariant-loop-thread
invariant-loop-thread l = l.threads.items ++ drop l.thread-index l.woken ≡ returning l.t l.effect.fate ++ l.woken
