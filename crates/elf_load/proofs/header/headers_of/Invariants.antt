-- The invariants of the loops of `headers_of`.
use Rattle.std.proofs.Common.{◌≡◌, map}
use Rattle.std.specs.List.{range_with_len}
use Rattle.elf_spec.specs.Header.{program_header}
use Rattle.elf_load.specs.Header.{header_of}
use Rattle.elf_load.proofs.header.headers_of.Given as goal

-- the headers so far
abbrev pub invariant-loop-number : goal.invariant-loop-number
invariant-loop-number l = map header_of l.headers.items ≡ map (program_header l.bytes) (range_with_len 0 l.number)
