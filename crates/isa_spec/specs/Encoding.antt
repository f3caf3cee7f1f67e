-- The word of an instruction, apart from the table by which words are read.
use Rattle.std.specs.Prelude.{◌≡◌, ℕ, ◌+◌, ◌*◌, ◌/◌, ◌%◌, ◌^◌, ◌<◌, ⊤}
use Rattle.isa_spec.specs.declared.Instr.{Instr}
use Rattle.isa_spec.specs.declared.Instr.TheVariants as instr
use Rattle.isa_spec.specs.declared.BranchTest.{BranchTest}
use Rattle.isa_spec.specs.declared.BranchTest.TheVariants as test
use Rattle.isa_spec.specs.declared.Load.{Load}
use Rattle.isa_spec.specs.declared.Load.TheVariants as load
use Rattle.isa_spec.specs.declared.Store.{Store}
use Rattle.isa_spec.specs.declared.Store.TheVariants as store
use Rattle.isa_spec.specs.declared.ImmediateOperation.{ImmediateOperation}
use Rattle.isa_spec.specs.declared.ImmediateOperation.TheVariants as immediate
use Rattle.isa_spec.specs.declared.ShiftOperation.{ShiftOperation}
use Rattle.isa_spec.specs.declared.ShiftOperation.TheVariants as shift
use Rattle.isa_spec.specs.declared.RegisterOperation.{RegisterOperation}
use Rattle.isa_spec.specs.declared.RegisterOperation.TheVariants as register
use Rattle.isa_spec.specs.Words.{sign_extended}
use Rattle.isa_spec.specs.Fields.{opcode_of, funct3_of}

-- the word of six fields: funct7, rs2, rs1, funct3, rd, opcode (RISC-V unprivileged ISA 20191213, 2.2, R-type)
abbrev pub word_of : ℕ → ℕ → ℕ → ℕ → ℕ → ℕ → ℕ
word_of f7 rs2 rs1 f3 rd opcode = f7 * 2 ^ 25 + rs2 * 2 ^ 20 + rs1 * 2 ^ 15 + f3 * 2 ^ 12 + rd * 2 ^ 7 + opcode

-- the I-type: the immediate's low twelve bits at the top (RISC-V unprivileged ISA 20191213, 2.2)
abbrev pub i_word : ℕ → ℕ → ℕ → ℕ → ℕ → ℕ
i_word imm rs1 f3 rd opcode = word_of (imm / 2 ^ 5 % 2 ^ 7) (imm % 2 ^ 5) rs1 f3 rd opcode

-- the S-type (RISC-V unprivileged ISA 20191213, 2.2)
abbrev pub s_word : ℕ → ℕ → ℕ → ℕ → ℕ → ℕ
s_word imm rs2 rs1 f3 opcode = word_of (imm / 2 ^ 5 % 2 ^ 7) rs2 rs1 f3 (imm % 2 ^ 5) opcode

-- the B-type: imm[12|10:5] at the top, imm[4:1|11] below (RISC-V unprivileged ISA 20191213, 2.3)
abbrev pub b_word : ℕ → ℕ → ℕ → ℕ → ℕ → ℕ
b_word imm rs2 rs1 f3 opcode =
    word_of (imm / 2 ^ 12 % 2 * 2 ^ 6 + imm / 2 ^ 5 % 2 ^ 6) rs2 rs1 f3 (imm / 2 % 2 ^ 4 * 2 + imm / 2 ^ 11 % 2) opcode

-- the U-type (RISC-V unprivileged ISA 20191213, 2.2)
abbrev pub u_word : ℕ → ℕ → ℕ → ℕ
u_word imm rd opcode = imm + rd * 2 ^ 7 + opcode

-- the J-type: imm[20|10:1|11|19:12] above rd (RISC-V unprivileged ISA 20191213, 2.3)
abbrev pub j_word : ℕ → ℕ → ℕ → ℕ
j_word imm rd opcode =
    imm / 2 ^ 20 % 2 * 2 ^ 31 + imm / 2 % 2 ^ 10 * 2 ^ 21 + imm / 2 ^ 11 % 2 * 2 ^ 20 + imm / 2 ^ 12 % 2 ^ 8 * 2 ^ 12
    + rd * 2 ^ 7 + opcode

-- funct3 of a branch (RISC-V unprivileged ISA 20191213, chapter 24)
abbrev pub branch_code : BranchTest → ℕ
branch_code test.Equal = 0b000
branch_code test.NotEqual = 0b001
branch_code test.Less = 0b100
branch_code test.GreaterOrEqual = 0b101
branch_code test.LessUnsigned = 0b110
branch_code test.GreaterOrEqualUnsigned = 0b111

-- funct3 of a load (RISC-V unprivileged ISA 20191213, chapter 24)
abbrev pub load_code : Load → ℕ
load_code load.Byte = 0b000
load_code load.Half = 0b001
load_code load.Word = 0b010
load_code load.ByteUnsigned = 0b100
load_code load.HalfUnsigned = 0b101

-- funct3 of a store (RISC-V unprivileged ISA 20191213, chapter 24)
abbrev pub store_code : Store → ℕ
store_code store.Byte = 0b000
store_code store.Half = 0b001
store_code store.Word = 0b010

-- funct3 of an operation with an immediate (RISC-V unprivileged ISA 20191213, chapter 24)
abbrev pub immediate_code : ImmediateOperation → ℕ
immediate_code immediate.Add = 0b000
immediate_code immediate.Less = 0b010
immediate_code immediate.LessUnsigned = 0b011
immediate_code immediate.Xor = 0b100
immediate_code immediate.Or = 0b110
immediate_code immediate.And = 0b111

-- funct3 of a shift by a constant (RISC-V unprivileged ISA 20191213, chapter 24)
abbrev pub shift_code : ShiftOperation → ℕ
shift_code shift.LeftLogical = 0b001
shift_code shift.RightLogical = 0b101
shift_code shift.RightArithmetic = 0b101

-- funct7 of a shift by a constant (RISC-V unprivileged ISA 20191213, chapter 24)
abbrev pub shift_top : ShiftOperation → ℕ
shift_top shift.RightArithmetic = 0b0100000
shift_top _ = 0b0000000

-- funct3 of an operation on two registers (RISC-V unprivileged ISA 20191213, chapter 24)
abbrev pub register_code : RegisterOperation → ℕ
register_code register.Add = 0b000
register_code register.Subtract = 0b000
register_code register.ShiftLeftLogical = 0b001
register_code register.Less = 0b010
register_code register.LessUnsigned = 0b011
register_code register.Xor = 0b100
register_code register.ShiftRightLogical = 0b101
register_code register.ShiftRightArithmetic = 0b101
register_code register.Or = 0b110
register_code register.And = 0b111
register_code register.Multiply = 0b000
register_code register.MultiplyHigh = 0b001
register_code register.MultiplyHighSignedUnsigned = 0b010
register_code register.MultiplyHighUnsigned = 0b011
register_code register.Divide = 0b100
register_code register.DivideUnsigned = 0b101
register_code register.Remainder = 0b110
register_code register.RemainderUnsigned = 0b111

-- funct7 of an operation on two registers (RISC-V unprivileged ISA 20191213, chapter 24)
abbrev pub register_top : RegisterOperation → ℕ
register_top register.Subtract = 0b0100000
register_top register.ShiftRightArithmetic = 0b0100000
register_top register.Multiply = 0b0000001
register_top register.MultiplyHigh = 0b0000001
register_top register.MultiplyHighSignedUnsigned = 0b0000001
register_top register.MultiplyHighUnsigned = 0b0000001
register_top register.Divide = 0b0000001
register_top register.DivideUnsigned = 0b0000001
register_top register.Remainder = 0b0000001
register_top register.RemainderUnsigned = 0b0000001
register_top _ = 0b0000000

-- the word of an instruction (RISC-V unprivileged ISA 20191213, chapter 24). FENCE has free fields: it
-- is written as assemblers write it, with all of its predecessor and successor bits set
abbrev pub encoding : Instr → ℕ
encoding (instr.Lui rd imm) = u_word imm rd 0b0110111
encoding (instr.Auipc rd imm) = u_word imm rd 0b0010111
encoding (instr.Jal rd imm) = j_word imm rd 0b1101111
encoding (instr.Jalr rd rs1 imm) = i_word imm rs1 0b000 rd 0b1100111
encoding (instr.Branch t rs1 rs2 imm) = b_word imm rs2 rs1 (branch_code t) 0b1100011
encoding (instr.Load l rd rs1 imm) = i_word imm rs1 (load_code l) rd 0b0000011
encoding (instr.Store s rs1 rs2 imm) = s_word imm rs2 rs1 (store_code s) 0b0100011
encoding (instr.Immediate o rd rs1 imm) = i_word imm rs1 (immediate_code o) rd 0b0010011
encoding (instr.Shift s rd rs1 amount) = word_of (shift_top s) amount rs1 (shift_code s) rd 0b0010011
encoding (instr.Register o rd rs1 rs2) = word_of (register_top o) rs2 rs1 (register_code o) rd 0b0110011
encoding instr.Fence = 0x0FF0000F
encoding instr.Ecall = 0x00000073
encoding instr.Ebreak = 0x00100073

-- a word that its low bits give by sign extension (RISC-V unprivileged ISA 20191213, 2.2)
abbrev pub IsSignExtended : ℕ → ℕ → Type 0
IsSignExtended bits imm = sign_extended bits (imm % 2 ^ bits) ≡ imm

-- an offset of a jump: sign-extended, and even (RISC-V unprivileged ISA 20191213, 2.5)
abbrev pub IsOffset : ℕ → ℕ → Type 0
IsOffset bits imm = IsSignExtended bits imm × (imm % 2 ≡ 0)

-- an upper immediate: a word with twelve zeros at its end (RISC-V unprivileged ISA 20191213, 2.4, Integer
-- Register-Immediate Instructions)
abbrev pub IsUpper : ℕ → Type 0
IsUpper imm = (imm < 2 ^ 32) × (imm % 2 ^ 12 ≡ 0)

-- the operands that a word of this form has room for: register numbers and shift amounts below 32, and
-- immediates of the form's length (RISC-V unprivileged ISA 20191213, 2.2 and 2.3)
abbrev pub InRange : Instr → Type 0
InRange (instr.Lui rd imm) = (rd < 32) × IsUpper imm
InRange (instr.Auipc rd imm) = (rd < 32) × IsUpper imm
InRange (instr.Jal rd imm) = (rd < 32) × IsOffset 21 imm
InRange (instr.Jalr rd rs1 imm) = (rd < 32) × (rs1 < 32) × IsSignExtended 12 imm
InRange (instr.Branch t rs1 rs2 imm) = (rs1 < 32) × (rs2 < 32) × IsOffset 13 imm
InRange (instr.Load l rd rs1 imm) = (rd < 32) × (rs1 < 32) × IsSignExtended 12 imm
InRange (instr.Store s rs1 rs2 imm) = (rs1 < 32) × (rs2 < 32) × IsSignExtended 12 imm
InRange (instr.Immediate o rd rs1 imm) = (rd < 32) × (rs1 < 32) × IsSignExtended 12 imm
InRange (instr.Shift s rd rs1 amount) = (rd < 32) × (rs1 < 32) × (amount < 32)
InRange (instr.Register o rd rs1 rs2) = (rd < 32) × (rs1 < 32) × (rs2 < 32)
InRange instr.Fence = ⊤
InRange instr.Ecall = ⊤
InRange instr.Ebreak = ⊤

-- a word that encodes an instruction: its encoding; FENCE by any word of its opcode and funct3 (RISC-V unprivileged ISA
-- 20191213, 2.7)
abbrev pub IsWordOf : ℕ → Instr → Type 0
IsWordOf w instr.Fence = (opcode_of w ≡ 0b0001111) × (funct3_of w ≡ 0b000)
IsWordOf w i = w ≡ encoding i
