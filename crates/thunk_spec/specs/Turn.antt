-- One turn of a hart: an instruction fetched, decoded and executed, as an effect on registers and memory.
use Rattle.std.specs.Prelude.{ℕ, ◌*◌, ◌/◌, ◌%◌, ◌==◌, if◌then◌else◌, List, [], ◌∷◌, Option, Some, None}
use Rattle.isa_spec.specs.declared.Instr.{Instr}
use Rattle.isa_spec.specs.declared.Instr.TheVariants as instr
use Rattle.isa_spec.specs.declared.BranchTest.{BranchTest}
use Rattle.isa_spec.specs.declared.Load.{Load}
use Rattle.isa_spec.specs.declared.Load.TheVariants as load
use Rattle.isa_spec.specs.declared.Store.{Store}
use Rattle.isa_spec.specs.declared.Store.TheVariants as store
use Rattle.isa_spec.specs.declared.Cause.TheVariants.{InstructionMisaligned, InstructionAccess, IllegalInstruction, Breakpoint, LoadMisaligned, LoadAccess, StoreMisaligned, StoreAccess}
use Rattle.isa_spec.specs.Words.{sum_of, sign_extended}
use Rattle.isa_spec.specs.Registers.{Registers, register, with_register, with_pc}
use Rattle.isa_spec.specs.Operations.{branch_taken, immediate_result, shift_result, register_result}
use Rattle.isa_spec.specs.Table.{decoded}
use Rattle.memory_spec.specs.declared.Size.{Size}
use Rattle.memory_spec.specs.declared.Size.TheVariants.{One, Two, Four}
use Rattle.memory_spec.specs.Pages.{Mapped, Memory}
use Rattle.memory_spec.specs.Stores.{StoredByte}
use Rattle.memory_spec.specs.Access.{byte_count, bytes_stored, loaded, fetched, may_store}
use Rattle.thunk_spec.specs.declared.ends.Outcome.{Outcome}
use Rattle.thunk_spec.specs.declared.ends.Outcome.TheVariants.{Next, Call, Trap}

-- What a turn does: how it ends, the registers after it, an address in each page that it took a byte from, and its
-- stores in order.
pub record Turn : Type 0 where
  pub outcome : Outcome
  pub regs : Registers
  pub taken : List ℕ
  pub stores : List StoredByte

-- A turn that the next one follows.
abbrev pub passed : Registers → List ℕ → List StoredByte → Turn
passed r taken stores = record { outcome = Next; regs = r; taken = taken; stores = stores }

-- A turn that ends the thunk, with the registers as they were.
abbrev pub stopped : Outcome → Registers → Turn
stopped outcome r = record { outcome = outcome; regs = r; taken = []; stores = [] }

-- The registers with the pc at the next instruction. (RISC-V unprivileged ISA 20191213, 2.1)
abbrev pub advanced : Registers → Registers
advanced r = with_pc r (sum_of r.pc 4)

-- An instruction whose only effect is on registers. (RISC-V unprivileged ISA 20191213, 2.4)
abbrev pub computed : Registers → ℕ → ℕ → Turn
computed r rd value = passed (advanced (with_register r rd value)) [] []

-- Control goes to a target, and the registers are `linked`; a target that isn't a multiple of 4 traps instead. (RISC-V
-- unprivileged ISA 20191213, 2.5)
abbrev pub jumped : Registers → Registers → ℕ → Turn
jumped r linked target =
    if target % 4 == 0 then passed (with_pc linked target) [] [] else stopped (Trap InstructionMisaligned) r

-- The registers of a jump: rd has the address of the instruction after it. (RISC-V unprivileged ISA 20191213, 2.5,
-- Unconditional Jumps)
abbrev pub linked : Registers → ℕ → Registers
linked r rd = with_register r rd (sum_of r.pc 4)

-- A branch goes to its target if its test holds, else to the next instruction. (RISC-V unprivileged ISA 20191213, 2.5,
-- Conditional Branches)
abbrev pub branched : Registers → BranchTest → ℕ → ℕ → ℕ → Turn
branched r test a b imm = if branch_taken test a b then jumped r r (sum_of r.pc imm) else passed (advanced r) [] []

-- How many bytes a load moves. (RISC-V unprivileged ISA 20191213, 2.6)
abbrev pub load_size : Load → Size
load_size load.Byte = One
load_size load.Half = Two
load_size load.Word = Four
load_size load.ByteUnsigned = One
load_size load.HalfUnsigned = Two

-- The word that a load puts into its register. (RISC-V unprivileged ISA 20191213, 2.6)
abbrev pub load_result : Load → ℕ → ℕ
load_result load.Byte value = sign_extended 8 value
load_result load.Half value = sign_extended 16 value
load_result load.Word value = value
load_result load.ByteUnsigned value = value
load_result load.HalfUnsigned value = value

-- A load whose access found this. (RISC-V unprivileged ISA 20191213, 2.6)
abbrev pub load_found : Registers → Load → ℕ → ℕ → Option ℕ → Turn
load_found r kind rd address (Some value) =
    passed (advanced (with_register r rd (load_result kind value))) (address ∷ []) []
load_found r kind rd address None = stopped (Trap LoadAccess) r

-- A load: alignment is looked at before the access. (RISC-V unprivileged ISA 20191213, 2.6)
abbrev pub load_turn : List Mapped → Memory → Registers → Load → ℕ → ℕ → Turn
load_turn map memory r kind rd address =
    if address % byte_count (load_size kind) == 0
    then load_found r kind rd address (loaded map memory address (load_size kind))
    else stopped (Trap LoadMisaligned) r

-- How many bytes a store moves. (RISC-V unprivileged ISA 20191213, 2.6)
abbrev pub store_size : Store → Size
store_size store.Byte = One
store_size store.Half = Two
store_size store.Word = Four

-- A store: alignment is looked at before the access. (RISC-V unprivileged ISA 20191213, 2.6)
abbrev pub store_turn : List Mapped → Registers → Store → ℕ → ℕ → Turn
store_turn map r kind address value =
    if address % byte_count (store_size kind) == 0 then
    (if may_store map address then passed (advanced r) [] (bytes_stored address (store_size kind) value)
    else stopped (Trap StoreAccess) r)
    else stopped (Trap StoreMisaligned) r

-- What an instruction does on a memory and registers, without its fetch. (RISC-V unprivileged ISA 20191213, ch. 2)
abbrev pub executed : List Mapped → Memory → Registers → Instr → Turn
executed map memory r (instr.Lui rd imm) = computed r rd imm
executed map memory r (instr.Auipc rd imm) = computed r rd (sum_of r.pc imm)
executed map memory r (instr.Jal rd imm) = jumped r (linked r rd) (sum_of r.pc imm)
executed map memory r (instr.Jalr rd rs1 imm) = jumped r (linked r rd) (sum_of (register r rs1) imm / 2 * 2)
executed map memory r (instr.Branch test rs1 rs2 imm) = branched r test (register r rs1) (register r rs2) imm
executed map memory r (instr.Load kind rd rs1 imm) = load_turn map memory r kind rd (sum_of (register r rs1) imm)
executed map memory r (instr.Store kind rs1 rs2 imm) =
    store_turn map r kind (sum_of (register r rs1) imm) (register r rs2)
executed map memory r (instr.Immediate operation rd rs1 imm) =
    computed r rd (immediate_result operation (register r rs1) imm)
executed map memory r (instr.Shift shift rd rs1 amount) = computed r rd (shift_result shift (register r rs1) amount)
executed map memory r (instr.Register operation rd rs1 rs2) =
    computed r rd (register_result operation (register r rs1) (register r rs2))
executed map memory r instr.Fence = passed (advanced r) [] []
executed map memory r instr.Ecall = stopped Call r
executed map memory r instr.Ebreak = stopped (Trap Breakpoint) r

-- What a word does: its instruction, or a trap if no row of the table has it. (RISC-V unprivileged ISA 20191213, 2.2)
abbrev pub word_turn : List Mapped → Memory → Registers → Option Instr → Turn
word_turn map memory r (Some i) = executed map memory r i
word_turn map memory r None = stopped (Trap IllegalInstruction) r

-- A turn whose word was fetched at an address: a byte of its page was taken too.
abbrev pub with_fetch : ℕ → Turn → Turn
with_fetch address t = record t { taken = address ∷ t.taken }

-- A turn whose fetch found this. (RISC-V unprivileged ISA 20191213, 1.5)
abbrev pub fetch_found : List Mapped → Memory → Registers → Option ℕ → Turn
fetch_found map memory r (Some word) = with_fetch r.pc (word_turn map memory r (decoded word))
fetch_found map memory r None = stopped (Trap InstructionAccess) r

-- One turn on a memory and registers: alignment of the pc is looked at before the fetch. (RISC-V unprivileged ISA
-- 20191213, ch. 2)
unfoldable pub turn : List Mapped → Memory → Registers → Turn
turn map memory r =
    if r.pc % 4 == 0 then fetch_found map memory r (fetched map memory r.pc) else stopped (Trap InstructionMisaligned) r
