-- Registers and the numbers of causes, computed. The expected values are those that the RISC-V
-- unprivileged ISA 20191213, 2.1, and the privileged ISA 20211203, 3.1.15, give.
use Rattle.std.proofs.Common.{◌≡◌, replicate, refl}
use Rattle.isa_spec.specs.declared.Cause.TheVariants as cause
use Rattle.isa_spec.specs.Registers.{Registers, register, with_register, with_pc}
use Rattle.isa_spec.specs.Causes.{number_of}

-- a hart at its start
abbrev reset : Registers
reset = record { pc = 0x10000; x = replicate 32 0 }

-- x0 reads zero
pub x0_reads_zero : register reset 0 ≡ 0
x0_reads_zero = refl

-- a write to x0 is dropped
pub a_write_to_x0_is_dropped : with_register reset 0 7 ≡ reset
unfolding with_register
a_write_to_x0_is_dropped = refl

-- a write to x5 is read back
pub a_write_to_x5_is_kept : register (with_register reset 5 7) 5 ≡ 7
unfolding with_register
a_write_to_x5_is_kept = refl

-- a write to x5 keeps its neighbours
pub a_write_to_x5_leaves_x4 : register (with_register reset 5 7) 4 ≡ 0
unfolding with_register
a_write_to_x5_leaves_x4 = refl

-- a write to x5 keeps its neighbours
pub a_write_to_x5_leaves_x6 : register (with_register reset 5 7) 6 ≡ 0
unfolding with_register
a_write_to_x5_leaves_x6 = refl

-- a write to a register keeps pc
pub a_write_to_x5_leaves_pc : (with_register reset 5 7).pc ≡ 0x10000
unfolding with_register
a_write_to_x5_leaves_pc = refl

-- x31 is the last register
pub a_write_to_x31_is_kept : register (with_register reset 31 7) 31 ≡ 7
unfolding with_register
a_write_to_x31_is_kept = refl

-- a jump moves pc
pub a_jump_moves_pc : (with_pc reset 0x10008).pc ≡ 0x10008
a_jump_moves_pc = refl

-- a jump keeps the registers
pub a_jump_leaves_x5 : register (with_pc (with_register reset 5 7) 0x10008) 5 ≡ 7
unfolding with_register
a_jump_leaves_x5 = refl

-- an illegal instruction is cause 2
pub an_illegal_instruction_is_2 : number_of cause.IllegalInstruction ≡ 2
an_illegal_instruction_is_2 = refl

-- a store that has no access is cause 7
pub a_store_access_is_7 : number_of cause.StoreAccess ≡ 7
a_store_access_is_7 = refl
