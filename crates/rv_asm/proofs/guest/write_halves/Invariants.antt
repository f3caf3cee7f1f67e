-- The invariant of the loop of `write_halves`.
use Rattle.std.proofs.Common.{◌≡◌, ◌++◌, take, flat_map}
use Rattle.byteorder.specs.Endian.{little_bytes}
use Rattle.rv_asm.proofs.guest.write_halves.Given as goal

-- the numbers so far are written
abbrev pub invariant-loop-number : goal.invariant-loop-number
invariant-loop-number l = l.out ≡ l.initial.out ++ flat_map (little_bytes 2) (take l.number-index l.numbers)
