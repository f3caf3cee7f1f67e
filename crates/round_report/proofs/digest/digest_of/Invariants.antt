-- The hasher holds the pages so far.
use Rattle.std.proofs.Common.{take}
use Rattle.std.specs.List.{concat}
use Rattle.sha2.specs.Hashers.{Holds256}
use Rattle.round_report.proofs.digest.digest_of.Given as goal

abbrev pub invariant-loop-slot : goal.invariant-loop-slot
invariant-loop-slot l = Holds256 l.hasher (concat (take l.slot l.memory))
