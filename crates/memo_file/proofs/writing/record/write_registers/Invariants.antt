-- The numbers so far were written.
use Rattle.std.proofs.Common.{◌≡◌, ◌++◌, take}
use Rattle.std.specs.List.{flat_map}
use Rattle.memo_spec.specs.Encoding.{word}
use Rattle.memo_file.proofs.writing.record.write_registers.Given as goal

abbrev pub invariant-loop-number : goal.invariant-loop-number
invariant-loop-number l = l.out.items ≡ l.fn.out.items ++ flat_map word (take l.number-index l.number-items)
