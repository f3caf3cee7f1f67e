-- What an operation of a decoded page stands for.
use Rattle.std.specs.Prelude.{◌≡◌, ◌≢◌, ℕ, ◌+◌, ◌*◌, ◌/◌, ◌<◌, Bool, true, false, List, length, Option, Some, None, slice_index_or}
use Rattle.isa_spec.specs.declared.Instr.{Instr}
use Rattle.isa_spec.specs.declared.Instr.TheVariants as instr
use Rattle.isa_spec.specs.declared.BranchTest.TheVariants as test
use Rattle.isa_spec.specs.declared.Load.TheVariants as load
use Rattle.isa_spec.specs.declared.Store.TheVariants as store
use Rattle.isa_spec.specs.declared.ImmediateOperation.TheVariants as immediate
use Rattle.isa_spec.specs.declared.ShiftOperation.TheVariants as shift
use Rattle.isa_spec.specs.declared.RegisterOperation.TheVariants as register_
use Rattle.isa_spec.specs.Registers.{Registers, register}
use Rattle.isa_spec.specs.Table.{decoded}
use Rattle.isa_spec.specs.Words.{difference_of}
use Rattle.memory_spec.specs.declared.Size.TheVariants.{Four}
use Rattle.memory_spec.specs.declared.TheConstants.{PAGE_NUMBERS}
use Rattle.memory_spec.specs.Access.{number_in}
use Rattle.memory_spec.specs.Pages.{Mapped, Memory}
use Rattle.thunk_spec.specs.Turn.{executed, word_turn}
use Rattle.rv_code.specs.declared.operation.Kind.{Kind}
use Rattle.rv_code.specs.declared.operation.Kind.TheVariants as kind
use Rattle.rv_code.specs.declared.operation.Operation.{Operation}

-- The address of a word in the page of an address, by the word's index.
abbrev pub word_address : ℕ → ℕ → ℕ
word_address address index = address / 4096 * 4096 + 4 * index

-- The offset of a jump from an address to the word of an index in the same page.
abbrev pub offset_to : ℕ → ℕ → ℕ
offset_to address index = difference_of (word_address address index) address

-- The instruction that an operation of a kind stands for at an address; none if it is left to a turn of its own.
abbrev pub instr_by : Kind → ℕ → ℕ → ℕ → ℕ → ℕ → Option Instr
instr_by kind.Other address rd rs1 rs2 imm = None
instr_by kind.Nothing address rd rs1 rs2 imm = Some instr.Fence
instr_by kind.Constant address rd rs1 rs2 imm = Some (instr.Lui rd imm)
instr_by kind.AddImmediate address rd rs1 rs2 imm = Some (instr.Immediate immediate.Add rd rs1 imm)
instr_by kind.LessImmediate address rd rs1 rs2 imm = Some (instr.Immediate immediate.Less rd rs1 imm)
instr_by kind.LessUnsignedImmediate address rd rs1 rs2 imm = Some (instr.Immediate immediate.LessUnsigned rd rs1 imm)
instr_by kind.XorImmediate address rd rs1 rs2 imm = Some (instr.Immediate immediate.Xor rd rs1 imm)
instr_by kind.OrImmediate address rd rs1 rs2 imm = Some (instr.Immediate immediate.Or rd rs1 imm)
instr_by kind.AndImmediate address rd rs1 rs2 imm = Some (instr.Immediate immediate.And rd rs1 imm)
instr_by kind.ShiftLeftImmediate address rd rs1 rs2 imm = Some (instr.Shift shift.LeftLogical rd rs1 imm)
instr_by kind.ShiftRightImmediate address rd rs1 rs2 imm = Some (instr.Shift shift.RightLogical rd rs1 imm)
instr_by kind.ShiftRightArithmeticImmediate address rd rs1 rs2 imm = Some (instr.Shift shift.RightArithmetic rd rs1 imm)
instr_by kind.Add address rd rs1 rs2 imm = Some (instr.Register register_.Add rd rs1 rs2)
instr_by kind.Subtract address rd rs1 rs2 imm = Some (instr.Register register_.Subtract rd rs1 rs2)
instr_by kind.ShiftLeft address rd rs1 rs2 imm = Some (instr.Register register_.ShiftLeftLogical rd rs1 rs2)
instr_by kind.Less address rd rs1 rs2 imm = Some (instr.Register register_.Less rd rs1 rs2)
instr_by kind.LessUnsigned address rd rs1 rs2 imm = Some (instr.Register register_.LessUnsigned rd rs1 rs2)
instr_by kind.Xor address rd rs1 rs2 imm = Some (instr.Register register_.Xor rd rs1 rs2)
instr_by kind.ShiftRight address rd rs1 rs2 imm = Some (instr.Register register_.ShiftRightLogical rd rs1 rs2)
instr_by kind.ShiftRightArithmetic address rd rs1 rs2 imm =
    Some (instr.Register register_.ShiftRightArithmetic rd rs1 rs2)
instr_by kind.Or address rd rs1 rs2 imm = Some (instr.Register register_.Or rd rs1 rs2)
instr_by kind.And address rd rs1 rs2 imm = Some (instr.Register register_.And rd rs1 rs2)
instr_by kind.Multiply address rd rs1 rs2 imm = Some (instr.Register register_.Multiply rd rs1 rs2)
instr_by kind.MultiplyHigh address rd rs1 rs2 imm = Some (instr.Register register_.MultiplyHigh rd rs1 rs2)
instr_by kind.MultiplyHighSignedUnsigned address rd rs1 rs2 imm =
    Some (instr.Register register_.MultiplyHighSignedUnsigned rd rs1 rs2)
instr_by kind.MultiplyHighUnsigned address rd rs1 rs2 imm =
    Some (instr.Register register_.MultiplyHighUnsigned rd rs1 rs2)
instr_by kind.Divide address rd rs1 rs2 imm = Some (instr.Register register_.Divide rd rs1 rs2)
instr_by kind.DivideUnsigned address rd rs1 rs2 imm = Some (instr.Register register_.DivideUnsigned rd rs1 rs2)
instr_by kind.Remainder address rd rs1 rs2 imm = Some (instr.Register register_.Remainder rd rs1 rs2)
instr_by kind.RemainderUnsigned address rd rs1 rs2 imm = Some (instr.Register register_.RemainderUnsigned rd rs1 rs2)
instr_by kind.LoadByte address rd rs1 rs2 imm = Some (instr.Load load.Byte rd rs1 imm)
instr_by kind.LoadHalf address rd rs1 rs2 imm = Some (instr.Load load.Half rd rs1 imm)
instr_by kind.LoadWord address rd rs1 rs2 imm = Some (instr.Load load.Word rd rs1 imm)
instr_by kind.LoadByteUnsigned address rd rs1 rs2 imm = Some (instr.Load load.ByteUnsigned rd rs1 imm)
instr_by kind.LoadHalfUnsigned address rd rs1 rs2 imm = Some (instr.Load load.HalfUnsigned rd rs1 imm)
instr_by kind.StoreByte address rd rs1 rs2 imm = Some (instr.Store store.Byte rs1 rs2 imm)
instr_by kind.StoreHalf address rd rs1 rs2 imm = Some (instr.Store store.Half rs1 rs2 imm)
instr_by kind.StoreWord address rd rs1 rs2 imm = Some (instr.Store store.Word rs1 rs2 imm)
instr_by kind.BranchEqual address rd rs1 rs2 imm = Some (instr.Branch test.Equal rs1 rs2 (offset_to address imm))
instr_by kind.BranchNotEqual address rd rs1 rs2 imm = Some (instr.Branch test.NotEqual rs1 rs2 (offset_to address imm))
instr_by kind.BranchLess address rd rs1 rs2 imm = Some (instr.Branch test.Less rs1 rs2 (offset_to address imm))
instr_by kind.BranchGreaterOrEqual address rd rs1 rs2 imm =
    Some (instr.Branch test.GreaterOrEqual rs1 rs2 (offset_to address imm))
instr_by kind.BranchLessUnsigned address rd rs1 rs2 imm =
    Some (instr.Branch test.LessUnsigned rs1 rs2 (offset_to address imm))
instr_by kind.BranchGreaterOrEqualUnsigned address rd rs1 rs2 imm =
    Some (instr.Branch test.GreaterOrEqualUnsigned rs1 rs2 (offset_to address imm))
instr_by kind.Jump address rd rs1 rs2 imm = Some (instr.Jal 0 (offset_to address imm))
instr_by kind.JumpAndLink address rd rs1 rs2 imm = Some (instr.Jal rd (offset_to address imm))
instr_by kind.JumpFar address rd rs1 rs2 imm = Some (instr.Jal rd (difference_of imm address))
instr_by kind.JumpToRegister address rd rs1 rs2 imm = Some (instr.Jalr rd rs1 imm)

-- The instruction that an operation stands for at an address.
abbrev pub instr_of : ℕ → Operation → Option Instr
instr_of address o = instr_by o.kind address o.rd o.rs1 o.rs2 o.imm

-- Whether an operation's immediate is the index of a word in its page.
abbrev pub is_inside : Kind → Bool
is_inside kind.BranchEqual = true
is_inside kind.BranchNotEqual = true
is_inside kind.BranchLess = true
is_inside kind.BranchGreaterOrEqual = true
is_inside kind.BranchLessUnsigned = true
is_inside kind.BranchGreaterOrEqualUnsigned = true
is_inside kind.Jump = true
is_inside kind.JumpAndLink = true
is_inside _ = false

-- Whether an operation may have x0 in rd: one that writes no register, or that checks rd for x0.
abbrev pub may_have_zero : Kind → Bool
may_have_zero kind.Other = true
may_have_zero kind.Nothing = true
may_have_zero kind.StoreByte = true
may_have_zero kind.StoreHalf = true
may_have_zero kind.StoreWord = true
may_have_zero kind.BranchEqual = true
may_have_zero kind.BranchNotEqual = true
may_have_zero kind.BranchLess = true
may_have_zero kind.BranchGreaterOrEqual = true
may_have_zero kind.BranchLessUnsigned = true
may_have_zero kind.BranchGreaterOrEqualUnsigned = true
may_have_zero kind.Jump = true
may_have_zero kind.JumpFar = true
may_have_zero kind.JumpToRegister = true
may_have_zero _ = false

-- An operation may be executed in place of the word at an address: its registers are among the 32, and it has x0 in rd
-- only if it writes no register or checks rd for x0; a target inside the page is a word of it; and the instruction that
-- it stands for does there what the word does, whatever memory and registers.
pub record StandsFor (address word : ℕ) (o : Operation) : Type 0 where
  pub rd : o.rd < 32
  pub rs1 : o.rs1 < 32
  pub rs2 : o.rs2 < 32
  pub writes : may_have_zero o.kind ≡ false → o.rd ≢ 0
  pub inside : is_inside o.kind ≡ true → o.imm < 1024
  pub same : (map : List Mapped) (memory : Memory) (r : Registers) (i : Instr)
      → instr_of address o ≡ Some i → r.pc ≡ address → register r 0 ≡ 0
      → executed map memory r i ≡ word_turn map memory r (decoded word)

-- The operation that is left to a turn of its own.
abbrev pub other : Operation
other = record { kind = kind.Other; rd = 0; rs1 = 0; rs2 = 0; imm = 0 }

-- A decoded page: its number, its bytes, and its operations in the order of its words.
pub record Decoded : Type 0 where
  pub number : ℕ
  pub bytes : List ℕ
  pub operations : List Operation

-- A decoded page is that of its bytes: each word's operation stands for it at its address; and the one after the last
-- is left to a turn of its own.
pub record IsCodeOf (c : Decoded) : Type 0 where
  pub number : c.number < PAGE_NUMBERS
  pub bytes : length c.bytes ≡ 4096
  pub count : length c.operations ≡ 1025
  pub words : (i : ℕ) → i < 1024
      → StandsFor (c.number * 4096 + 4 * i) (number_in c.bytes (4 * i) Four) (slice_index_or c.operations i other)
  pub last : slice_index_or c.operations 1024 other ≡ other
