-- The numbers of the causes of a trap.
use Rattle.std.specs.Prelude.{ℕ}
use Rattle.isa_spec.specs.declared.Cause.{Cause}
use Rattle.isa_spec.specs.declared.Cause.TheVariants as cause

-- the exception code (RISC-V privileged ISA 20211203, 3.1.15), and 8 for a call that doesn't exist
abbrev pub number_of : Cause → ℕ
number_of cause.InstructionMisaligned = 0
number_of cause.InstructionAccess = 1
number_of cause.IllegalInstruction = 2
number_of cause.Breakpoint = 3
number_of cause.LoadMisaligned = 4
number_of cause.LoadAccess = 5
number_of cause.StoreMisaligned = 6
number_of cause.StoreAccess = 7
number_of cause.BadCall = 8
