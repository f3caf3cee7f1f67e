-- The invariant of the loop of `bytes_from`.
use Rattle.std.proofs.Common.{◌≡◌}
use Rattle.std.specs.List.{range_with_len}
use Rattle.thunk_spec.specs.Put.{bytes_at}
use Rattle.plain_machine.proofs.put.bytes_from.Given as goal

-- the bytes so far are those of the addresses so far
abbrev pub invariant-loop-k : goal.invariant-loop-k
invariant-loop-k l = l.bytes.items ≡ bytes_at l.map l.memory (range_with_len l.start l.k)
