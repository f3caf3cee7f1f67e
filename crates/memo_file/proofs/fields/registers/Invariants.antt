-- The words so far, and those still to be read, are all.
use Rattle.std.proofs.Common.{◌≡◌, ◌-◌, take, length}
use Rattle.std.specs.Int.{w32}
use Rattle.memo_spec.specs.Reader.{number_at, each}
use Rattle.memo_file.proofs.Loops.{with_all}
use Rattle.memo_file.proofs.fields.registers.Given as goal

abbrev pub invariant-loop-i : goal.invariant-loop-i
invariant-loop-i l = (length l.words ≡ 32)
    × (with_all (take l.i l.words) (each (32 - l.i) (number_at w32) l.cursor) ≡ each 32 (number_at w32) l.fn.cursor)
