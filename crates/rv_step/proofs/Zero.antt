-- x0 stays zero.
use Rattle.std.proofs.Common.{◌≡◌, ℕ, ◌*◌, ◌/◌, ◌%◌, ◌==◌, Bool, true, false, cond, slice_set, List, Option, Some, None, ◌∙◌, refl, arith}
use Rattle.std.proofs.lemmas.List.{get_or-set_other}
use Rattle.std.proofs.lemmas.Bool.Decides.{nat_tests}
use Rattle.isa_spec.specs.declared.Instr.{Instr}
use Rattle.isa_spec.specs.declared.Instr.TheVariants as instr
use Rattle.isa_spec.specs.declared.Load.{Load}
use Rattle.isa_spec.specs.Registers.{Registers, register, with_register, with_pc}
use Rattle.isa_spec.specs.Words.{sum_of}
use Rattle.isa_spec.specs.Operations.{branch_taken}
use Rattle.memory_spec.specs.Access.{byte_count, may_store}
use Rattle.memory_spec.specs.Pages.{Mapped, Memory}
use Rattle.memory_spec.specs.Stores.{StoredByte}
use Rattle.memory_spec.specs.Workspace.{Workspace}
use Rattle.thunk_spec.specs.declared.ends.Outcome.{Outcome}
use Rattle.thunk_spec.specs.Turn.{Turn, executed, load_found, load_size, store_size}
use Rattle.rv_step.specs.Paging.{Executes}

-- A turn keeps zero in x0.
record LeavesZero (t : Turn) : Type 0 where
  zero : register t.regs 0 ≡ 0

written :
    {outcome : Outcome} (r : Registers) (n value : ℕ) {pc : ℕ} {taken : List ℕ} {stores : List StoredByte}
    → register r 0 ≡ 0
    → LeavesZero (record { outcome = outcome; regs = with_pc (with_register r n value) pc; taken = taken; stores = stores })
unfolding with_register
written r n value zero = record {
  zero =
      elim (n == 0)
      as (λ b. (n == 0) ≡ b → register (cond b r (record r { x = slice_set r.x n value })) 0 ≡ 0) [
        | true ↦ λ same. zero
        | false ↦ λ differ. get_or-set_other r.x n 0 value 0 (λ same. absurd (grind (arith, nat_tests))) ∙ zero
      ] refl;
}

kept :
    {outcome : Outcome} (r : Registers) {pc : ℕ} {taken : List ℕ} {stores : List StoredByte} → register r 0 ≡ 0
    → LeavesZero (record { outcome = outcome; regs = with_pc r pc; taken = taken; stores = stores })
kept r zero = record { zero = zero }

either : (b : Bool) {x y : Turn} → LeavesZero x → LeavesZero y → LeavesZero (cond b x y)
either true p q = p
either false p q = q

loaded-zero :
    (r : Registers) (kind : Load) (rd address : ℕ) (found : Option ℕ) → register r 0 ≡ 0
    → LeavesZero (load_found r kind rd address found)
loaded-zero r kind rd address (Some value) zero = written r rd _ zero
loaded-zero r kind rd address None zero = kept r zero

executed-zero :
    (map : List Mapped) (memory : Memory) (r : Registers) (i : Instr) → register r 0 ≡ 0
    → LeavesZero (executed map memory r i)
executed-zero map memory r (instr.Lui rd imm) zero = written r rd _ zero
executed-zero map memory r (instr.Auipc rd imm) zero = written r rd _ zero
executed-zero map memory r (instr.Jal rd imm) zero =
    either (sum_of r.pc imm % 4 == 0) (written r rd _ zero) (kept r zero)
executed-zero map memory r (instr.Jalr rd rs1 imm) zero =
    either (sum_of (register r rs1) imm / 2 * 2 % 4 == 0) (written r rd _ zero) (kept r zero)
executed-zero map memory r (instr.Branch test rs1 rs2 imm) zero =
    either (branch_taken test (register r rs1) (register r rs2))
    (either (sum_of r.pc imm % 4 == 0) (kept r zero) (kept r zero)) (kept r zero)
executed-zero map memory r (instr.Load kind rd rs1 imm) zero =
    either (sum_of (register r rs1) imm % byte_count (load_size kind) == 0) (loaded-zero r kind rd _ _ zero) (kept r zero)
executed-zero map memory r (instr.Store kind rs1 rs2 imm) zero =
    let address = sum_of (register r rs1) imm in
    either (address % byte_count (store_size kind) == 0) (either (may_store map address) (kept r zero) (kept r zero))
    (kept r zero)
executed-zero map memory r (instr.Immediate operation rd rs1 imm) zero = written r rd _ zero
executed-zero map memory r (instr.Shift shift rd rs1 amount) zero = written r rd _ zero
executed-zero map memory r (instr.Register operation rd rs1 rs2) zero = written r rd _ zero
executed-zero map memory r instr.Fence zero = kept r zero
executed-zero map memory r instr.Ecall zero = kept r zero
executed-zero map memory r instr.Ebreak zero = kept r zero

-- and so does an instruction that was executed
pub executes-zero :
    (o : Option Instr) (w after : Workspace) (r registers : Registers) → register r 0 ≡ 0
    → Executes o w r after registers → register registers 0 ≡ 0
executes-zero None w after r registers zero none = absurd none
executes-zero (Some i) w after r registers zero made =
    rw made.regs_are (executed-zero w.map w.memory r i zero).zero
