-- A thunk that ended by an illegal instruction ended at a word that no row of the table has, so at none of M.
use Rattle.std.proofs.Common.{◌≡◌, ℕ, ◌%◌, ◌<◌, zero, suc, Bool, true, false, eqb, cond, List, [], ◌∷◌, ◌++◌, Option, Some, None, is_some, refl, arith}
use Rattle.std.specs.Prelude.{option_map}
use Rattle.std.proofs.lemmas.Bool.{eqb-true}
use Rattle.isa_spec.specs.declared.Cause.TheVariants.{InstructionMisaligned, LoadMisaligned, StoreAccess, StoreMisaligned}
use Rattle.isa_spec.specs.declared.Instr.{Instr}
use Rattle.isa_spec.specs.declared.Instr.TheVariants as instr
use Rattle.isa_spec.specs.declared.Load.{Load}
use Rattle.isa_spec.specs.declared.Store.{Store}
use Rattle.isa_spec.specs.Fields.{opcode_of, funct3_of, funct7_of}
use Rattle.isa_spec.specs.Words.{sum_of}
use Rattle.isa_spec.specs.Registers.{Registers, register, with_pc}
use Rattle.isa_spec.specs.Operations.{branch_taken}
use Rattle.isa_spec.specs.Table.{reading_of, decoded}
use Rattle.memory_spec.specs.declared.Size.TheVariants.{Four}
use Rattle.memory_spec.specs.Pages.{Mapped, Memory, allows, execute_right, permission_at}
use Rattle.memory_spec.specs.Stores.{StoredByte, with_byte, with_stores}
use Rattle.memory_spec.specs.Access.{byte_count, bytes_stored, number_at, loaded, fetched, may_store}
use Rattle.thunk_spec.specs.declared.ends.Outcome.{Outcome}
use Rattle.thunk_spec.specs.declared.ends.Outcome.TheVariants as outcome
use Rattle.thunk_spec.specs.declared.ends.ThunkEnd.{ThunkEnd}
use Rattle.thunk_spec.specs.declared.ends.ThunkEnd.TheVariants as ends
use Rattle.thunk_spec.specs.Turn.{Turn, passed, stopped, advanced, jumped, linked, load_size, load_found, load_turn, store_size, store_turn, executed, word_turn, fetch_found, turn}
use Rattle.thunk_spec.specs.Thunk.{Frame, Thunk, followed, turns, thunk}
use Rattle.history_spec.proofs.Scratch.{and-left, and-right}
use Rattle.memo_spec.specs.Old.{is_of_m, is_illegal}

-- the table has a row for each funct3 of M
row_of_m :
    (f3 w : ℕ) → f3 < 8 → is_some (option_map (λ read. read w) (reading_of 0b0110011 f3 0b0000001 w)) ≡ true
unfolding reading_of
row_of_m zero w below = refl
row_of_m (suc zero) w below = refl
row_of_m (suc (suc zero)) w below = refl
row_of_m (suc (suc (suc zero))) w below = refl
row_of_m (suc (suc (suc (suc zero)))) w below = refl
row_of_m (suc (suc (suc (suc (suc zero))))) w below = refl
row_of_m (suc (suc (suc (suc (suc (suc zero)))))) w below = refl
row_of_m (suc (suc (suc (suc (suc (suc (suc zero))))))) w below = refl
row_of_m (suc (suc (suc (suc (suc (suc (suc (suc f3)))))))) w below = absurd (omega arith)

-- so each word of M is an instruction
decoded-m : (w : ℕ) → is_of_m w ≡ true → is_some (decoded w) ≡ true
unfolding decoded
decoded-m w is =
    let op : opcode_of w ≡ 0b0110011 =
    eqb-true (opcode_of w) 0b0110011 (and-left (eqb (opcode_of w) 0b0110011) (eqb (funct7_of w) 0b0000001) is) in
    let f7 : funct7_of w ≡ 0b0000001 =
    eqb-true (funct7_of w) 0b0000001 (and-right (eqb (opcode_of w) 0b0110011) (eqb (funct7_of w) 0b0000001) is) in
    let below : funct3_of w < 8 = omega arith in
    rw (op, f7) (row_of_m (funct3_of w) w below)

-- and a word that is none isn't of M
pub undecoded-m : (w : ℕ) → decoded w ≡ None → is_of_m w ≡ false
undecoded-m w none = here (is_of_m w) refl
  where
    here : (b : Bool) → is_of_m w ≡ b → is_of_m w ≡ false
    here true is = let some = decoded-m w is in cc
    here false is = is

-- ---- the last turn

-- the end of a thunk that a turn with this outcome ends
abbrev end_after : Outcome → ThunkEnd
end_after outcome.Next = ends.Fuel
end_after outcome.Call = ends.Call
end_after (outcome.Trap cause) = ends.Trap cause

abbrev is_illegal_turn : Turn → Bool
is_illegal_turn t = is_illegal (end_after t.outcome)

either-legal :
    (b : Bool) (t u : Turn) → is_illegal_turn t ≡ false → is_illegal_turn u ≡ false
    → is_illegal_turn (cond b t u) ≡ false
either-legal true t u left right = left
either-legal false t u left right = right

jumped-legal : (r after : Registers) (target : ℕ) → is_illegal_turn (jumped r after target) ≡ false
jumped-legal r after target =
    either-legal (eqb (target % 4) 0) (passed (with_pc after target) [] [])
    (stopped (outcome.Trap InstructionMisaligned) r) refl refl

load_found-legal :
    (r : Registers) (kind : Load) (rd address : ℕ) (o : Option ℕ)
    → is_illegal_turn (load_found r kind rd address o) ≡ false
load_found-legal r kind rd address (Some value) = refl
load_found-legal r kind rd address None = refl

load-legal :
    (map : List Mapped) (memory : Memory) (r : Registers) (kind : Load) (rd address : ℕ)
    → is_illegal_turn (load_turn map memory r kind rd address) ≡ false
load-legal map memory r kind rd address =
    either-legal (eqb (address % byte_count (load_size kind)) 0)
    (load_found r kind rd address (loaded map memory address (load_size kind)))
    (stopped (outcome.Trap LoadMisaligned) r)
    (load_found-legal r kind rd address (loaded map memory address (load_size kind))) refl

store-legal :
    (map : List Mapped) (r : Registers) (kind : Store) (address value : ℕ)
    → is_illegal_turn (store_turn map r kind address value) ≡ false
store-legal map r kind address value =
    either-legal (eqb (address % byte_count (store_size kind)) 0)
    (cond (may_store map address) (passed (advanced r) [] (bytes_stored address (store_size kind) value))
    (stopped (outcome.Trap StoreAccess) r))
    (stopped (outcome.Trap StoreMisaligned) r)
    (either-legal (may_store map address) (passed (advanced r) [] (bytes_stored address (store_size kind) value))
    (stopped (outcome.Trap StoreAccess) r) refl refl) refl

-- no instruction is illegal
executed-legal :
    (map : List Mapped) (memory : Memory) (r : Registers) (i : Instr)
    → is_illegal_turn (executed map memory r i) ≡ false
executed-legal map memory r (instr.Lui rd imm) = refl
executed-legal map memory r (instr.Auipc rd imm) = refl
executed-legal map memory r (instr.Jal rd imm) = jumped-legal r (linked r rd) (sum_of r.pc imm)
executed-legal map memory r (instr.Jalr rd rs1 imm) = jumped-legal r (linked r rd) _
executed-legal map memory r (instr.Branch test rs1 rs2 imm) =
    either-legal (branch_taken test (register r rs1) (register r rs2)) (jumped r r (sum_of r.pc imm))
    (passed (advanced r) [] []) (jumped-legal r r (sum_of r.pc imm)) refl
executed-legal map memory r (instr.Load kind rd rs1 imm) =
    load-legal map memory r kind rd (sum_of (register r rs1) imm)
executed-legal map memory r (instr.Store kind rs1 rs2 imm) =
    store-legal map r kind (sum_of (register r rs1) imm) (register r rs2)
executed-legal map memory r (instr.Immediate operation rd rs1 imm) = refl
executed-legal map memory r (instr.Shift shift rd rs1 amount) = refl
executed-legal map memory r (instr.Register operation rd rs1 rs2) = refl
executed-legal map memory r instr.Fence = refl
executed-legal map memory r instr.Ecall = refl
executed-legal map memory r instr.Ebreak = refl

-- an aligned pc, with a word in memory that is no instruction
pub record StandsAtIllegal (map : List Mapped) (memory : Memory) (r : Registers) : Type 0 where
  pub aligned : r.pc % 4 ≡ 0
  pub none : decoded (number_at map memory r.pc Four) ≡ None

-- a turn that changed nothing, at such a word
record IsIllegalTurn (map : List Mapped) (memory : Memory) (r : Registers) (t : Turn) : Type 0 where
  pub regs : t.regs ≡ r
  pub stores : t.stores ≡ []
  pub stands : StandsAtIllegal map memory r

word-illegal :
    (map : List Mapped) (memory : Memory) (r : Registers) (o : Option Instr)
    → is_illegal_turn (word_turn map memory r o) ≡ true
    → (o ≡ None) × ((word_turn map memory r o).regs ≡ r) × ((word_turn map memory r o).stores ≡ [])
word-illegal map memory r (Some i) h = absurd (let legal = executed-legal map memory r i in cc)
word-illegal map memory r None h = (refl, refl, refl)

fetch-illegal :
    (map : List Mapped) (memory : Memory) (r : Registers) (b : Bool)
    → r.pc % 4 ≡ 0
    → is_illegal_turn (fetch_found map memory r (cond b (Some (number_at map memory r.pc Four)) None)) ≡ true
    → IsIllegalTurn map memory r (fetch_found map memory r (cond b (Some (number_at map memory r.pc Four)) None))
fetch-illegal map memory r true aligned h =
    let last = word-illegal map memory r (decoded (number_at map memory r.pc Four)) h in
    record {
      regs = last.1;
      stores = last.2;
      stands = record { aligned = aligned; none = last.0 };
    }
fetch-illegal map memory r false aligned h = cc

turn-illegal :
    (map : List Mapped) (memory : Memory) (r : Registers)
    → is_illegal_turn (turn map memory r) ≡ true → IsIllegalTurn map memory r (turn map memory r)
unfolding turn fetched
turn-illegal map memory r h = here (eqb (r.pc % 4) 0) refl h
  where
    found : Turn
    found =
        fetch_found map memory r
        (cond (allows execute_right (permission_at map r.pc)) (Some (number_at map memory r.pc Four)) None)

    here :
        (b : Bool) → eqb (r.pc % 4) 0 ≡ b
        → is_illegal_turn (cond b found (stopped (outcome.Trap InstructionMisaligned) r)) ≡ true
        → IsIllegalTurn map memory r (cond b found (stopped (outcome.Trap InstructionMisaligned) r))
    here true aligned ill =
        fetch-illegal map memory r (allows execute_right (permission_at map r.pc)) (eqb-true (r.pc % 4) 0 aligned) ill
    here false aligned ill = cc

-- ---- the thunk

with_stores-append :
    (map : List Mapped) (memory : Memory) (xs ys : List StoredByte)
    → with_stores map memory (xs ++ ys) ≡ with_stores map (with_stores map memory xs) ys
with_stores-append map memory [] ys = refl
with_stores-append map memory (x ∷ xs) ys = with_stores-append map (with_byte map memory x) xs ys

-- the registers and stores of a thunk end at an illegal instruction
abbrev Stands : List Mapped → Memory → Thunk → Type 0
Stands map memory t = StandsAtIllegal map (with_stores map memory t.stores) t.regs

last-stands :
    (map : List Mapped) (memory : Memory) (r : Registers) (t : Turn)
    → IsIllegalTurn map memory r t → StandsAtIllegal map (with_stores map memory t.stores) t.regs
last-stands map memory r t is = rw (is.stores, is.regs) is.stands

followed-stands :
    (o : Outcome) (map : List Mapped) (memory : Memory) (t : Turn) (rest : Memory → Registers → Thunk)
    → (is_illegal (end_after o) ≡ true → StandsAtIllegal map (with_stores map memory t.stores) t.regs)
    → ((m : Memory) (r : Registers) → is_illegal (rest m r).end ≡ true → Stands map m (rest m r))
    → is_illegal (followed o map memory t rest).end ≡ true → Stands map memory (followed o map memory t rest)
followed-stands outcome.Next map memory t rest last later h =
    rw (with_stores-append map memory t.stores (rest (with_stores map memory t.stores) t.regs).stores)
    (later (with_stores map memory t.stores) t.regs h)
followed-stands outcome.Call map memory t rest last later h = cc
followed-stands (outcome.Trap cause) map memory t rest last later h = last h

turns-stand :
    (map : List Mapped) (fuel : ℕ) (memory : Memory) (r : Registers)
    → is_illegal (turns map fuel memory r).end ≡ true → Stands map memory (turns map fuel memory r)
turns-stand map zero memory r h = cc
turns-stand map (suc fuel) memory r h =
    followed-stands (turn map memory r).outcome map memory (turn map memory r) (turns map fuel)
    (λ ill. last-stands map memory r (turn map memory r) (turn-illegal map memory r ill)) (turns-stand map fuel) h

-- a thunk that ended by an illegal instruction ended at it
pub thunk-stands :
    (f : Frame) (view : Memory) (r : Registers)
    → is_illegal (thunk f view r).end ≡ true
    → StandsAtIllegal f.map (with_stores f.map view (thunk f view r).stores) (thunk f view r).regs
unfolding thunk
thunk-stands f view r h = turns-stand f.map f.fuel view r h
