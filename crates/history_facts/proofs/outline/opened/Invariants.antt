-- The invariant of the loop of `opened`.
use Rattle.std.proofs.Common.{◌≡◌, ◌++◌, drop}
use Rattle.history_spec.specs.Facts.{reads_in}
use Rattle.history_facts.specs.Outlining.{numbered}
use Rattle.history_facts.proofs.outline.opened.Given as goal

-- the slots so far, with those for the remaining threads, are all
abbrev pub invariant-loop-t : goal.invariant-loop-t
invariant-loop-t l =
    l.slots.items ++ numbered (reads_in l.records) l.numbers (drop l.t-index l.threads)
    ≡ numbered (reads_in l.records) l.numbers l.threads
