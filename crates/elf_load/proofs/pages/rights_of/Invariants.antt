-- The invariants of the loops of `rights_of`.
use Rattle.std.proofs.Common.{◌≡◌, ℕ, fold, take, bit_or}
use Rattle.elf_spec.specs.Segments.{segment_permission}
use Rattle.elf_load.specs.Header.{header_of}
use Rattle.elf_load.proofs.pages.rights_of.Given as goal

-- the rights of the segments so far
abbrev pub invariant-loop-header : goal.invariant-loop-header
invariant-loop-header l =
    l.rights ≡ fold (λ (rights : ℕ) header. bit_or rights (segment_permission (header_of header))) 0
    (take l.header-index l.headers)
