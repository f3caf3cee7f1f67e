-- Instructions and their words, computed. The expected words are those that LLVM reads as these
-- instructions.
use Rattle.std.proofs.Common.{◌≡◌, refl}
use Rattle.isa_spec.specs.declared.Instr.TheVariants as instr
use Rattle.isa_spec.specs.declared.BranchTest.TheVariants as test
use Rattle.isa_spec.specs.declared.Load.TheVariants as load
use Rattle.isa_spec.specs.declared.Store.TheVariants as store
use Rattle.isa_spec.specs.declared.ImmediateOperation.TheVariants as immediate
use Rattle.isa_spec.specs.declared.ShiftOperation.TheVariants as shift
use Rattle.isa_spec.specs.declared.RegisterOperation.TheVariants as register
use Rattle.isa_spec.specs.Encoding.{encoding}

-- 00010537: lui rd=10 imm=00010000
pub encodes_lui : encoding (instr.Lui 10 0x00010000) ≡ 0x00010537
encodes_lui = refl

-- b54fef17: auipc rd=30 imm=b54fe000
pub encodes_auipc : encoding (instr.Auipc 30 0xb54fe000) ≡ 0xb54fef17
encodes_auipc = refl

-- cc9cc16f: jal rd=2 imm=fffcccc8
pub encodes_a_jump_back : encoding (instr.Jal 2 0xfffcccc8) ≡ 0xcc9cc16f
encodes_a_jump_back = refl

-- 17dbe8ef: jal rd=17 imm=000be97c
pub encodes_a_jump_forward : encoding (instr.Jal 17 0x000be97c) ≡ 0x17dbe8ef
encodes_a_jump_forward = refl

-- bd310fe7: jalr rd=31 rs1=2 imm=fffffbd3
pub encodes_jalr : encoding (instr.Jalr 31 2 0xfffffbd3) ≡ 0xbd310fe7
encodes_jalr = refl

-- 97fb8e63: beq rs1=23 rs2=31 imm=fffff17c
pub encodes_a_branch_back : encoding (instr.Branch test.Equal 23 31 0xfffff17c) ≡ 0x97fb8e63
encodes_a_branch_back = refl

-- 7e110fe3: beq rs1=2 rs2=1 imm=00000ffe
pub encodes_a_branch_forward : encoding (instr.Branch test.Equal 2 1 0x00000ffe) ≡ 0x7e110fe3
encodes_a_branch_forward = refl

-- e2015103: lhu rd=2 rs1=2 imm=fffffe20
pub encodes_a_load : encoding (instr.Load load.HalfUnsigned 2 2 0xfffffe20) ≡ 0xe2015103
encodes_a_load = refl

-- dd4f8aa3: sb rs1=31 rs2=20 imm=fffffdd5
pub encodes_a_store : encoding (instr.Store store.Byte 31 20 0xfffffdd5) ≡ 0xdd4f8aa3
encodes_a_store = refl

-- d55fb093: sltiu rd=1 rs1=31 imm=fffffd55
pub encodes_an_immediate_operation : encoding (instr.Immediate immediate.LessUnsigned 1 31 0xfffffd55) ≡ 0xd55fb093
encodes_an_immediate_operation = refl

-- 419fd113: srai rd=2 rs1=31 shamt=25
pub encodes_an_arithmetic_shift : encoding (instr.Shift shift.RightArithmetic 2 31 25) ≡ 0x419fd113
encodes_an_arithmetic_shift = refl

-- 41198033: sub rd=0 rs1=19 rs2=17
pub encodes_a_subtraction : encoding (instr.Register register.Subtract 0 19 17) ≡ 0x41198033
encodes_a_subtraction = refl

-- 0ff0000f: fence
pub encodes_fence : encoding instr.Fence ≡ 0x0ff0000f
encodes_fence = refl

-- 00000073: ecall
pub encodes_ecall : encoding instr.Ecall ≡ 0x00000073
encodes_ecall = refl

-- 00100073: ebreak
pub encodes_ebreak : encoding instr.Ebreak ≡ 0x00100073
encodes_ebreak = refl
