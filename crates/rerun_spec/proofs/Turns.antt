-- Turns and thunks of registers on a memory of bytes.
use Rattle.std.proofs.Common.{ℕ, ◌*◌, ◌/◌, ◌%◌, ◌<◌, ◌≤◌, zero, suc, Bool, true, false, eqb, cond, List, [], ◌∷◌, Option, Some, None, arith}
use Rattle.std.specs.Prelude.{IfSome, ⊤}
use Rattle.std.proofs.Math.Nat.{div-mul-le_self}
use Rattle.isa_spec.specs.declared.Cause.TheVariants.{InstructionMisaligned, InstructionAccess, IllegalInstruction, Breakpoint, LoadMisaligned, LoadAccess, StoreMisaligned, StoreAccess}
use Rattle.isa_spec.specs.declared.Instr.{Instr}
use Rattle.isa_spec.specs.declared.Instr.TheVariants as instr
use Rattle.isa_spec.specs.declared.BranchTest.{BranchTest}
use Rattle.isa_spec.specs.declared.Load.{Load}
use Rattle.isa_spec.specs.declared.Load.TheVariants as load
use Rattle.isa_spec.specs.declared.Store.{Store}
use Rattle.isa_spec.specs.Causes.{number_of}
use Rattle.isa_spec.specs.Words.{sum_of}
use Rattle.isa_spec.specs.Registers.{Registers, register, with_register, with_pc}
use Rattle.isa_spec.specs.Operations.{branch_taken, immediate_result, shift_result, register_result}
use Rattle.isa_spec.specs.Encoding.{InRange}
use Rattle.isa_spec.specs.Table.{decoded}
use Rattle.isa_spec.proofs.WordOf.{decoded_in_range}
use Rattle.memory_spec.specs.declared.Size.TheVariants.{Four}
use Rattle.memory_spec.specs.Pages.{Mapped, Memory}
use Rattle.memory_spec.specs.Stores.{StoredByte, with_stores}
use Rattle.memory_spec.specs.Access.{byte_count, bytes_stored, loaded, fetched, may_store}
use Rattle.thunk_spec.specs.declared.ends.Outcome.{Outcome}
use Rattle.thunk_spec.specs.declared.ends.Outcome.TheVariants as outcome
use Rattle.thunk_spec.specs.Turn.{Turn, passed, stopped, advanced, computed, jumped, linked, branched, load_size, load_result, load_found, load_turn, store_size, store_turn, executed, word_turn, with_fetch, fetch_found, turn}
use Rattle.thunk_spec.specs.Thunk.{Frame, Thunk, followed, turns, thunk}
use Rattle.memo_spec.specs.Encoding.{AreRegisters, IsEnd}
use Rattle.rerun_spec.proofs.Lists.{every-append}
use Rattle.rerun_spec.proofs.Words.{IsWord, sum-word, extended-word, byte-word, half-word, immediate-word, shift-word, operation-word, register-word, moved-registers, written-registers}
use Rattle.rerun_spec.proofs.Memory.{HasBytes, IsStore, AreStores, with_stores-bytes, stored-bytes, number_limit, FindsSmall, loaded-small, fetched-small}

-- a trap of a turn has one of its eight causes
abbrev pub IsOutcome : Outcome → Type 0
IsOutcome outcome.Next = ⊤
IsOutcome outcome.Call = ⊤
IsOutcome (outcome.Trap cause) = number_of cause < 8

-- a turn whose registers stay registers, and which stores bytes
pub record IsTurn (t : Turn) : Type 0 where
  pub outcome : IsOutcome t.outcome
  pub regs : AreRegisters t.regs
  pub stores : AreStores t.stores

either-turn : (b : Bool) (t u : Turn) → IsTurn t → IsTurn u → IsTurn (cond b t u)
either-turn true t u left right = left
either-turn false t u left right = right

passed-turn :
    (r : Registers) (taken : List ℕ) (stores : List StoredByte)
    → AreRegisters r → AreStores stores → IsTurn (passed r taken stores)
passed-turn r taken stores regs bytes = record { outcome = tt; regs = regs; stores = bytes }

stopped-turn : (o : Outcome) (r : Registers) → IsOutcome o → AreRegisters r → IsTurn (stopped o r)
stopped-turn o r is regs = record { outcome = is; regs = regs; stores = tt }

advanced-registers : (r : Registers) → AreRegisters r → AreRegisters (advanced r)
advanced-registers r regs = moved-registers r (sum_of r.pc 4) regs (sum-word r.pc 4)

computed-turn : (r : Registers) (rd value : ℕ) → AreRegisters r → IsWord value → IsTurn (computed r rd value)
computed-turn r rd value regs word =
    passed-turn (advanced (with_register r rd value)) [] []
    (advanced-registers (with_register r rd value) (written-registers r rd value regs word)) tt

jumped-turn :
    (r after : Registers) (target : ℕ)
    → AreRegisters r → AreRegisters after → IsWord target → IsTurn (jumped r after target)
jumped-turn r after target regs others word =
    either-turn (eqb (target % 4) 0) (passed (with_pc after target) [] [])
    (stopped (outcome.Trap InstructionMisaligned) r)
    (passed-turn (with_pc after target) [] [] (moved-registers after target others word) tt)
    (stopped-turn (outcome.Trap InstructionMisaligned) r (omega arith) regs)

linked-registers : (r : Registers) (rd : ℕ) → AreRegisters r → AreRegisters (linked r rd)
linked-registers r rd regs = written-registers r rd (sum_of r.pc 4) regs (sum-word r.pc 4)

branched-turn :
    (r : Registers) (test : BranchTest) (a b imm : ℕ) → AreRegisters r → IsTurn (branched r test a b imm)
branched-turn r test a b imm regs =
    either-turn (branch_taken test a b) (jumped r r (sum_of r.pc imm)) (passed (advanced r) [] [])
    (jumped-turn r r (sum_of r.pc imm) regs regs (sum-word r.pc imm))
    (passed-turn (advanced r) [] [] (advanced-registers r regs) tt)

load-word : (kind : Load) (value : ℕ) → value < number_limit (load_size kind) → IsWord (load_result kind value)
load-word load.Byte value small = byte-word value small
load-word load.Half value small = half-word value small
load-word load.Word value small = small
load-word load.ByteUnsigned value small = omega arith
load-word load.HalfUnsigned value small = omega arith

load_found-turn :
    (r : Registers) (kind : Load) (rd address : ℕ) (o : Option ℕ)
    → AreRegisters r → FindsSmall (load_size kind) o → IsTurn (load_found r kind rd address o)
load_found-turn r kind rd address (Some value) regs small =
    passed-turn (advanced (with_register r rd (load_result kind value))) (address ∷ []) []
    (advanced-registers (with_register r rd (load_result kind value))
    (written-registers r rd (load_result kind value) regs (load-word kind value small))) tt
load_found-turn r kind rd address None regs small = stopped-turn (outcome.Trap LoadAccess) r (omega arith) regs

load-turn :
    (map : List Mapped) (memory : Memory) (r : Registers) (kind : Load) (rd address : ℕ)
    → HasBytes memory → AreRegisters r → IsTurn (load_turn map memory r kind rd address)
load-turn map memory r kind rd address bytes regs =
    either-turn (eqb (address % byte_count (load_size kind)) 0)
    (load_found r kind rd address (loaded map memory address (load_size kind)))
    (stopped (outcome.Trap LoadMisaligned) r)
    (load_found-turn r kind rd address (loaded map memory address (load_size kind)) regs
    (loaded-small map memory address (load_size kind) bytes))
    (stopped-turn (outcome.Trap LoadMisaligned) r (omega arith) regs)

store-turn :
    (map : List Mapped) (r : Registers) (kind : Store) (address value : ℕ)
    → AreRegisters r → IsTurn (store_turn map r kind address value)
store-turn map r kind address value regs =
    either-turn (eqb (address % byte_count (store_size kind)) 0)
    (cond (may_store map address) (passed (advanced r) [] (bytes_stored address (store_size kind) value))
    (stopped (outcome.Trap StoreAccess) r))
    (stopped (outcome.Trap StoreMisaligned) r)
    (either-turn (may_store map address) (passed (advanced r) [] (bytes_stored address (store_size kind) value))
    (stopped (outcome.Trap StoreAccess) r)
    (passed-turn (advanced r) [] (bytes_stored address (store_size kind) value) (advanced-registers r regs)
    (stored-bytes address (store_size kind) value))
    (stopped-turn (outcome.Trap StoreAccess) r (omega arith) regs))
    (stopped-turn (outcome.Trap StoreMisaligned) r (omega arith) regs)

executed-turn :
    (map : List Mapped) (memory : Memory) (r : Registers) (i : Instr)
    → HasBytes memory → AreRegisters r → InRange i → IsTurn (executed map memory r i)
executed-turn map memory r (instr.Lui rd imm) bytes regs fit = computed-turn r rd imm regs fit.1.0
executed-turn map memory r (instr.Auipc rd imm) bytes regs fit =
    computed-turn r rd (sum_of r.pc imm) regs (sum-word r.pc imm)
executed-turn map memory r (instr.Jal rd imm) bytes regs fit =
    jumped-turn r (linked r rd) (sum_of r.pc imm) regs (linked-registers r rd regs) (sum-word r.pc imm)
executed-turn map memory r (instr.Jalr rd rs1 imm) bytes regs fit =
    jumped-turn r (linked r rd) (sum_of (register r rs1) imm / 2 * 2) regs (linked-registers r rd regs)
    (let word = sum-word (register r rs1) imm in
    let less = div-mul-le_self (sum_of (register r rs1) imm) 2 in omega arith)
executed-turn map memory r (instr.Branch test rs1 rs2 imm) bytes regs fit =
    branched-turn r test (register r rs1) (register r rs2) imm regs
executed-turn map memory r (instr.Load kind rd rs1 imm) bytes regs fit =
    load-turn map memory r kind rd (sum_of (register r rs1) imm) bytes regs
executed-turn map memory r (instr.Store kind rs1 rs2 imm) bytes regs fit =
    store-turn map r kind (sum_of (register r rs1) imm) (register r rs2) regs
executed-turn map memory r (instr.Immediate operation rd rs1 imm) bytes regs fit =
    computed-turn r rd (immediate_result operation (register r rs1) imm) regs
    (immediate-word operation (register r rs1) imm (register-word r rs1 regs) (extended-word imm fit.2))
executed-turn map memory r (instr.Shift shift rd rs1 amount) bytes regs fit =
    computed-turn r rd (shift_result shift (register r rs1) amount) regs
    (shift-word shift (register r rs1) amount (register-word r rs1 regs))
executed-turn map memory r (instr.Register operation rd rs1 rs2) bytes regs fit =
    computed-turn r rd (register_result operation (register r rs1) (register r rs2)) regs
    (operation-word operation (register r rs1) (register r rs2) (register-word r rs1 regs) (register-word r rs2 regs))
executed-turn map memory r instr.Fence bytes regs fit =
    passed-turn (advanced r) [] [] (advanced-registers r regs) tt
executed-turn map memory r instr.Ecall bytes regs fit = stopped-turn outcome.Call r tt regs
executed-turn map memory r instr.Ebreak bytes regs fit = stopped-turn (outcome.Trap Breakpoint) r (omega arith) regs

word-turn :
    (map : List Mapped) (memory : Memory) (r : Registers) (o : Option Instr)
    → HasBytes memory → AreRegisters r → IfSome o InRange → IsTurn (word_turn map memory r o)
word-turn map memory r (Some i) bytes regs fit = executed-turn map memory r i bytes regs fit
word-turn map memory r None bytes regs fit = stopped-turn (outcome.Trap IllegalInstruction) r (omega arith) regs

with_fetch-turn : (address : ℕ) (t : Turn) → IsTurn t → IsTurn (with_fetch address t)
with_fetch-turn address t is = record { outcome = is.outcome; regs = is.regs; stores = is.stores }

fetch_found-turn :
    (map : List Mapped) (memory : Memory) (r : Registers) (o : Option ℕ)
    → HasBytes memory → AreRegisters r → FindsSmall Four o → IsTurn (fetch_found map memory r o)
fetch_found-turn map memory r (Some word) bytes regs small =
    with_fetch-turn r.pc (word_turn map memory r (decoded word))
    (word-turn map memory r (decoded word) bytes regs (decoded_in_range word small))
fetch_found-turn map memory r None bytes regs small =
    stopped-turn (outcome.Trap InstructionAccess) r (omega arith) regs

pub turn-fits :
    (map : List Mapped) (memory : Memory) (r : Registers)
    → HasBytes memory → AreRegisters r → IsTurn (turn map memory r)
unfolding turn
turn-fits map memory r bytes regs =
    either-turn (eqb (r.pc % 4) 0) (fetch_found map memory r (fetched map memory r.pc))
    (stopped (outcome.Trap InstructionMisaligned) r)
    (fetch_found-turn map memory r (fetched map memory r.pc) bytes regs (fetched-small map memory r.pc bytes))
    (stopped-turn (outcome.Trap InstructionMisaligned) r (omega arith) regs)

-- thunks

-- a thunk within a number of turns, with an end that a record may have, whose registers stay registers
pub record IsThunk (fuel : ℕ) (t : Thunk) : Type 0 where
  pub end : IsEnd t.end
  pub some_turns : 1 ≤ fuel → 1 ≤ t.count
  pub most_turns : t.count ≤ fuel
  pub regs : AreRegisters t.regs
  pub stores : AreStores t.stores

followed-thunk :
    (fuel : ℕ) (o : Outcome) (map : List Mapped) (memory : Memory) (t : Turn) (rest : Memory → Registers → Thunk)
    → IsOutcome o → IsTurn t → HasBytes memory
    → ((m : Memory) (r : Registers) → HasBytes m → AreRegisters r → IsThunk fuel (rest m r))
    → IsThunk (suc fuel) (followed o map memory t rest)
followed-thunk fuel outcome.Next map memory t rest is fit bytes later =
    let others = later (with_stores map memory t.stores) t.regs (with_stores-bytes map memory t.stores bytes fit.stores) fit.regs in
    record {
      end = others.end;
      some_turns = λ some. omega arith;
      most_turns = let most = others.most_turns in omega arith;
      regs = others.regs;
      stores = every-append IsStore t.stores (rest (with_stores map memory t.stores) t.regs).stores fit.stores others.stores;
    }
followed-thunk fuel outcome.Call map memory t rest is fit bytes later =
    record {
      end = tt;
      some_turns = λ some. omega arith;
      most_turns = omega arith;
      regs = fit.regs;
      stores = fit.stores;
    }
followed-thunk fuel (outcome.Trap cause) map memory t rest is fit bytes later =
    record {
      end = is;
      some_turns = λ some. omega arith;
      most_turns = omega arith;
      regs = fit.regs;
      stores = fit.stores;
    }

turns-fit :
    (map : List Mapped) (fuel : ℕ) (memory : Memory) (r : Registers)
    → HasBytes memory → AreRegisters r → IsThunk fuel (turns map fuel memory r)
turns-fit map zero memory r bytes regs =
    record {
      end = tt;
      some_turns = λ some. omega arith;
      most_turns = omega arith;
      regs = regs;
      stores = tt;
    }
turns-fit map (suc fuel) memory r bytes regs =
    let fit = turn-fits map memory r bytes regs in
    followed-thunk fuel (turn map memory r).outcome map memory (turn map memory r) (turns map fuel) fit.outcome fit
    bytes (turns-fit map fuel)

pub thunk-fits :
    (f : Frame) (view : Memory) (r : Registers)
    → HasBytes view → AreRegisters r → IsThunk f.fuel (thunk f view r)
unfolding thunk
thunk-fits f view r bytes regs =
    let fit = turns-fit f.map f.fuel view r bytes regs in
    record {
      end = fit.end;
      some_turns = fit.some_turns;
      most_turns = fit.most_turns;
      regs = fit.regs;
      stores = fit.stores;
    }
