-- Applying the remaining records, from the machine so far on, determines the same as applying all.
use Rattle.std.proofs.Common.{◌≡◌, drop}
use Rattle.memo_spec.specs.Reading.{incoherent_from}
use Rattle.memo_file.proofs.coherence.refuse_incoherent.Given as goal

abbrev pub invariant-loop-i : goal.invariant-loop-i
invariant-loop-i l = incoherent_from l.i l.core (drop l.i l.records) ≡ incoherent_from 0 l.fn.core l.records
