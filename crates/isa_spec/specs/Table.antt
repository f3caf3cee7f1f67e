-- The instructions of RV32I and of the standard extension M, a row each.
use Rattle.std.specs.Prelude.{ℕ, Bool, true, ◌&&◌, ◌==◌, if◌then◌else◌, List, [], ◌∷◌, Option, Some, None, option_map}
use Rattle.isa_spec.specs.declared.Instr.{Instr}
use Rattle.isa_spec.specs.declared.Instr.TheVariants as instr
use Rattle.isa_spec.specs.declared.BranchTest.{BranchTest}
use Rattle.isa_spec.specs.declared.BranchTest.TheVariants as test
use Rattle.isa_spec.specs.declared.Load.{Load}
use Rattle.isa_spec.specs.declared.Load.TheVariants as load
use Rattle.isa_spec.specs.declared.Store.{Store}
use Rattle.isa_spec.specs.declared.Store.TheVariants as store
use Rattle.isa_spec.specs.declared.ImmediateOperation.{ImmediateOperation}
use Rattle.isa_spec.specs.declared.ImmediateOperation.TheVariants as immediate
use Rattle.isa_spec.specs.declared.ShiftOperation.{ShiftOperation}
use Rattle.isa_spec.specs.declared.ShiftOperation.TheVariants as shift
use Rattle.isa_spec.specs.declared.RegisterOperation.{RegisterOperation}
use Rattle.isa_spec.specs.declared.RegisterOperation.TheVariants as register
use Rattle.isa_spec.specs.Fields.{opcode_of, rd_of, funct3_of, rs1_of, rs2_of, funct7_of, i_immediate, s_immediate, b_immediate, u_immediate, j_immediate}

-- what a row requires of a field: one value, or any
pub data Wanted : Type 0 where
  fixed : ℕ → Wanted
  free : Wanted

-- a row of the listing: the fields that make a word this instruction, and how the word is read
-- (RISC-V unprivileged ISA 20191213, chapter 24, RV32I Base Instruction Set)
pub record Row : Type 0 where
  pub opcode : ℕ
  pub funct3 : Wanted
  pub funct7 : Wanted
  pub whole : Wanted
  pub read : ℕ → Instr

-- whether a field's value is the required one, or any is allowed
abbrev pub is_wanted : Wanted → ℕ → Bool
is_wanted (fixed n) value = value == n
is_wanted free value = true

-- a row that looks at opcode, funct3 and funct7
abbrev pub row : ℕ → Wanted → Wanted → (ℕ → Instr) → Row
row op f3 f7 reads = record { opcode = op; funct3 = f3; funct7 = f7; whole = free; read = reads }

-- the row of an instruction that is one word
abbrev pub one_word : ℕ → ℕ → Instr → Row
one_word op w instruction =
    record { opcode = op; funct3 = free; funct7 = free; whole = fixed w; read = λ _. instruction }

-- a conditional branch (RISC-V unprivileged ISA 20191213, 2.5)
abbrev pub branch_row : ℕ → BranchTest → Row
branch_row f3 t = row 0b1100011 (fixed f3) free (λ w. instr.Branch t (rs1_of w) (rs2_of w) (b_immediate w))

-- a load (RISC-V unprivileged ISA 20191213, 2.6)
abbrev pub load_row : ℕ → Load → Row
load_row f3 l = row 0b0000011 (fixed f3) free (λ w. instr.Load l (rd_of w) (rs1_of w) (i_immediate w))

-- a store (RISC-V unprivileged ISA 20191213, 2.6)
abbrev pub store_row : ℕ → Store → Row
store_row f3 s = row 0b0100011 (fixed f3) free (λ w. instr.Store s (rs1_of w) (rs2_of w) (s_immediate w))

-- an operation with an immediate (RISC-V unprivileged ISA 20191213, 2.4, Integer Register-Immediate Instructions)
abbrev pub immediate_row : ℕ → ImmediateOperation → Row
immediate_row f3 o = row 0b0010011 (fixed f3) free (λ w. instr.Immediate o (rd_of w) (rs1_of w) (i_immediate w))

-- a shift by a constant, which is the rs2 field (RISC-V unprivileged ISA 20191213, 2.4, Integer Register-Immediate
-- Instructions)
abbrev pub shift_row : ℕ → ℕ → ShiftOperation → Row
shift_row f7 f3 s = row 0b0010011 (fixed f3) (fixed f7) (λ w. instr.Shift s (rd_of w) (rs1_of w) (rs2_of w))

-- an operation on two registers (RISC-V unprivileged ISA 20191213, 2.4, Integer Register-Register Operations)
abbrev pub register_row : ℕ → ℕ → RegisterOperation → Row
register_row f7 f3 o = row 0b0110011 (fixed f3) (fixed f7) (λ w. instr.Register o (rd_of w) (rs1_of w) (rs2_of w))

-- the forty-eight instructions (RISC-V unprivileged ISA 20191213, chapter 24, RV32I Base Instruction Set and RV32M
-- Standard Extension)
abbrev pub rows : List Row
rows =
    row 0b0110111 free free (λ w. instr.Lui (rd_of w) (u_immediate w))
    ∷ row 0b0010111 free free (λ w. instr.Auipc (rd_of w) (u_immediate w))
    ∷ row 0b1101111 free free (λ w. instr.Jal (rd_of w) (j_immediate w))
    ∷ row 0b1100111 (fixed 0b000) free (λ w. instr.Jalr (rd_of w) (rs1_of w) (i_immediate w))
    ∷ branch_row 0b000 test.Equal
    ∷ branch_row 0b001 test.NotEqual
    ∷ branch_row 0b100 test.Less
    ∷ branch_row 0b101 test.GreaterOrEqual
    ∷ branch_row 0b110 test.LessUnsigned
    ∷ branch_row 0b111 test.GreaterOrEqualUnsigned
    ∷ load_row 0b000 load.Byte
    ∷ load_row 0b001 load.Half
    ∷ load_row 0b010 load.Word
    ∷ load_row 0b100 load.ByteUnsigned
    ∷ load_row 0b101 load.HalfUnsigned
    ∷ store_row 0b000 store.Byte
    ∷ store_row 0b001 store.Half
    ∷ store_row 0b010 store.Word
    ∷ immediate_row 0b000 immediate.Add
    ∷ immediate_row 0b010 immediate.Less
    ∷ immediate_row 0b011 immediate.LessUnsigned
    ∷ immediate_row 0b100 immediate.Xor
    ∷ immediate_row 0b110 immediate.Or
    ∷ immediate_row 0b111 immediate.And
    ∷ shift_row 0b0000000 0b001 shift.LeftLogical
    ∷ shift_row 0b0000000 0b101 shift.RightLogical
    ∷ shift_row 0b0100000 0b101 shift.RightArithmetic
    ∷ register_row 0b0000000 0b000 register.Add
    ∷ register_row 0b0100000 0b000 register.Subtract
    ∷ register_row 0b0000000 0b001 register.ShiftLeftLogical
    ∷ register_row 0b0000000 0b010 register.Less
    ∷ register_row 0b0000000 0b011 register.LessUnsigned
    ∷ register_row 0b0000000 0b100 register.Xor
    ∷ register_row 0b0000000 0b101 register.ShiftRightLogical
    ∷ register_row 0b0100000 0b101 register.ShiftRightArithmetic
    ∷ register_row 0b0000000 0b110 register.Or
    ∷ register_row 0b0000000 0b111 register.And
    ∷ register_row 0b0000001 0b000 register.Multiply
    ∷ register_row 0b0000001 0b001 register.MultiplyHigh
    ∷ register_row 0b0000001 0b010 register.MultiplyHighSignedUnsigned
    ∷ register_row 0b0000001 0b011 register.MultiplyHighUnsigned
    ∷ register_row 0b0000001 0b100 register.Divide
    ∷ register_row 0b0000001 0b101 register.DivideUnsigned
    ∷ register_row 0b0000001 0b110 register.Remainder
    ∷ register_row 0b0000001 0b111 register.RemainderUnsigned
    ∷ row 0b0001111 (fixed 0b000) free (λ _. instr.Fence)
    ∷ one_word 0b1110011 0x00000073 instr.Ecall
    ∷ one_word 0b1110011 0x00100073 instr.Ebreak
    ∷ []

-- how a word with these fields is read, by the first row that has them
abbrev pub reading_in : List Row → ℕ → ℕ → ℕ → ℕ → Option (ℕ → Instr)
reading_in [] opcode f3 f7 w = None
reading_in (r ∷ rs) opcode f3 f7 w =
    if opcode == r.opcode && (is_wanted r.funct3 f3 && (is_wanted r.funct7 f7 && is_wanted r.whole w))
    then Some r.read
    else reading_in rs opcode f3 f7 w

-- how a word with these fields is read
unfoldable pub reading_of : ℕ → ℕ → ℕ → ℕ → Option (ℕ → Instr)
reading_of = reading_in rows

-- the instruction of a word, or none if no row has it: such a word is illegal (RISC-V unprivileged ISA 20191213, 2.2)
unfoldable pub decoded : ℕ → Option Instr
decoded w = option_map (λ read. read w) (reading_of (opcode_of w) (funct3_of w) (funct7_of w) w)
