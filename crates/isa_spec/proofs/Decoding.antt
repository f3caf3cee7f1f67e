-- Decoding is the inverse of encoding.
use Rattle.std.proofs.Common.{◌≡◌, ℕ, ◌+◌, ◌*◌, ◌/◌, ◌%◌, ◌^◌, ◌<◌, Some, refl, arith}
use Rattle.isa_spec.specs.declared.Instr.{Instr}
use Rattle.isa_spec.specs.declared.Instr.TheVariants as instr
use Rattle.isa_spec.specs.declared.BranchTest.{BranchTest}
use Rattle.isa_spec.specs.declared.BranchTest.TheVariants as test
use Rattle.isa_spec.specs.declared.Load.{Load}
use Rattle.isa_spec.specs.declared.Load.TheVariants as load
use Rattle.isa_spec.specs.declared.Store.{Store}
use Rattle.isa_spec.specs.declared.Store.TheVariants as store
use Rattle.isa_spec.specs.declared.ImmediateOperation.{ImmediateOperation}
use Rattle.isa_spec.specs.declared.ImmediateOperation.TheVariants as immediate
use Rattle.isa_spec.specs.declared.ShiftOperation.{ShiftOperation}
use Rattle.isa_spec.specs.declared.ShiftOperation.TheVariants as shift
use Rattle.isa_spec.specs.declared.RegisterOperation.{RegisterOperation}
use Rattle.isa_spec.specs.declared.RegisterOperation.TheVariants as register
use Rattle.isa_spec.specs.Fields.{opcode_of, rd_of, funct3_of, rs1_of, rs2_of, funct7_of, i_immediate, s_immediate, b_immediate, u_immediate, j_immediate}
use Rattle.isa_spec.specs.Table.{decoded, reading_of}
use Rattle.isa_spec.specs.Encoding.{i_word, branch_code, load_code, store_code, immediate_code, shift_code, shift_top, register_code, register_top, encoding, InRange}
use Rattle.isa_spec.proofs.Immediates.{Has, fields_of_word, i_immediate_back, s_immediate_back, b_immediate_back, fields_of_u_word, fields_of_j_word}

-- a word of a branch's opcode and funct3 is that branch
branch_read :
    (t : BranchTest) (w : ℕ) → opcode_of w ≡ 0b1100011 → funct3_of w ≡ branch_code t
    → decoded w ≡ Some (instr.Branch t (rs1_of w) (rs2_of w) (b_immediate w))
unfolding decoded reading_of
branch_read test.Equal w op f3 = rw (op, f3) refl
branch_read _ w op f3 = rw (op, f3) refl

-- a word of a load's opcode and funct3 is that load
load_read :
    (l : Load) (w : ℕ) → opcode_of w ≡ 0b0000011 → funct3_of w ≡ load_code l
    → decoded w ≡ Some (instr.Load l (rd_of w) (rs1_of w) (i_immediate w))
unfolding decoded reading_of
load_read load.Byte w op f3 = rw (op, f3) refl
load_read _ w op f3 = rw (op, f3) refl

-- a word of a store's opcode and funct3 is that store
store_read :
    (s : Store) (w : ℕ) → opcode_of w ≡ 0b0100011 → funct3_of w ≡ store_code s
    → decoded w ≡ Some (instr.Store s (rs1_of w) (rs2_of w) (s_immediate w))
unfolding decoded reading_of
store_read store.Byte w op f3 = rw (op, f3) refl
store_read _ w op f3 = rw (op, f3) refl

-- a word of an immediate operation's opcode and funct3 is that operation
immediate_read :
    (o : ImmediateOperation) (w : ℕ) → opcode_of w ≡ 0b0010011 → funct3_of w ≡ immediate_code o
    → decoded w ≡ Some (instr.Immediate o (rd_of w) (rs1_of w) (i_immediate w))
unfolding decoded reading_of
immediate_read immediate.Add w op f3 = rw (op, f3) refl
immediate_read _ w op f3 = rw (op, f3) refl

-- a word of a shift's opcode, funct3 and funct7 is that shift
shift_read :
    (s : ShiftOperation) (w : ℕ) → opcode_of w ≡ 0b0010011 → funct3_of w ≡ shift_code s → funct7_of w ≡ shift_top s
    → decoded w ≡ Some (instr.Shift s (rd_of w) (rs1_of w) (rs2_of w))
unfolding decoded reading_of
shift_read shift.LeftLogical w op f3 f7 = rw (op, f3, f7) refl
shift_read _ w op f3 f7 = rw (op, f3, f7) refl

-- a word of a register operation's opcode, funct3 and funct7 is that operation
register_read :
    (o : RegisterOperation) (w : ℕ) → opcode_of w ≡ 0b0110011 → funct3_of w ≡ register_code o
    → funct7_of w ≡ register_top o → decoded w ≡ Some (instr.Register o (rd_of w) (rs1_of w) (rs2_of w))
unfolding decoded reading_of
register_read register.Add w op f3 f7 = rw (op, f3, f7) refl
register_read _ w op f3 f7 = rw (op, f3, f7) refl

-- a word of JALR's opcode and funct3 is a JALR
jalr_read :
    (w : ℕ) → opcode_of w ≡ 0b1100111 → funct3_of w ≡ 0b000
    → decoded w ≡ Some (instr.Jalr (rd_of w) (rs1_of w) (i_immediate w))
unfolding decoded reading_of
jalr_read w op f3 = rw (op, f3) refl

-- a word of LUI's opcode is a LUI
lui_read : (w : ℕ) → opcode_of w ≡ 0b0110111 → decoded w ≡ Some (instr.Lui (rd_of w) (u_immediate w))
unfolding decoded reading_of
lui_read w op = rw op refl

-- a word of AUIPC's opcode is an AUIPC
auipc_read : (w : ℕ) → opcode_of w ≡ 0b0010111 → decoded w ≡ Some (instr.Auipc (rd_of w) (u_immediate w))
unfolding decoded reading_of
auipc_read w op = rw op refl

-- a word of JAL's opcode is a JAL
jal_read : (w : ℕ) → opcode_of w ≡ 0b1101111 → decoded w ≡ Some (instr.Jal (rd_of w) (j_immediate w))
unfolding decoded reading_of
jal_read w op = rw op refl

-- the word that FENCE is written as
fence_read : decoded 0x0FF0000F ≡ Some instr.Fence
unfolding decoded reading_of
fence_read = refl

-- the word of ECALL
ecall_read : decoded 0x00000073 ≡ Some instr.Ecall
unfolding decoded reading_of
ecall_read = refl

-- the word of EBREAK
ebreak_read : decoded 0x00100073 ≡ Some instr.Ebreak
unfolding decoded reading_of
ebreak_read = refl

-- the code of a branch fits its field
branch_code_fits : (t : BranchTest) → branch_code t < 2 ^ 3
branch_code_fits test.Equal = omega arith
branch_code_fits _ = omega arith

-- the code of a load fits its field
load_code_fits : (l : Load) → load_code l < 2 ^ 3
load_code_fits load.Byte = omega arith
load_code_fits _ = omega arith

-- the code of a store fits its field
store_code_fits : (s : Store) → store_code s < 2 ^ 3
store_code_fits store.Byte = omega arith
store_code_fits _ = omega arith

-- the code of an operation with an immediate fits its field
immediate_code_fits : (o : ImmediateOperation) → immediate_code o < 2 ^ 3
immediate_code_fits immediate.Add = omega arith
immediate_code_fits _ = omega arith

-- the codes of a shift fit their fields
shift_code_fits : (s : ShiftOperation) → (shift_code s < 2 ^ 3) × (shift_top s < 2 ^ 7)
shift_code_fits shift.LeftLogical = (omega arith, omega arith)
shift_code_fits _ = (omega arith, omega arith)

-- the codes of an operation on two registers fit their fields
register_code_fits : (o : RegisterOperation) → (register_code o < 2 ^ 3) × (register_top o < 2 ^ 7)
register_code_fits register.Add = (omega arith, omega arith)
register_code_fits _ = (omega arith, omega arith)

-- the fields of an I-type word
i_fields :
    (imm rs1 f3 rd op : ℕ) → rs1 < 2 ^ 5 → f3 < 2 ^ 3 → rd < 2 ^ 5 → op < 2 ^ 7
    → Has (i_word imm rs1 f3 rd op) (imm / 2 ^ 5 % 2 ^ 7) (imm % 2 ^ 5) rs1 f3 rd op
i_fields imm rs1 f3 rd op h1 h3 hd ho =
    fields_of_word (imm / 2 ^ 5 % 2 ^ 7) (imm % 2 ^ 5) rs1 f3 rd op (omega arith) (omega arith) h1 h3 hd ho

-- the instruction that a word was made from is decoded again
pub decoded-encoding : (i : Instr) → InRange i → decoded (encoding i) ≡ Some i
decoded-encoding (instr.Lui rd imm) (hd, upper) =
    let h = fields_of_u_word imm rd 0b0110111 upper hd (omega arith) in
    rw (lui_read _ h.opcode, h.target, h.immediate) refl
decoded-encoding (instr.Auipc rd imm) (hd, upper) =
    let h = fields_of_u_word imm rd 0b0010111 upper hd (omega arith) in
    rw (auipc_read _ h.opcode, h.target, h.immediate) refl
decoded-encoding (instr.Jal rd imm) (hd, offset) =
    let h = fields_of_j_word imm rd 0b1101111 offset hd (omega arith) in
    rw (jal_read _ h.opcode, h.target, h.immediate) refl
decoded-encoding (instr.Jalr rd rs1 imm) (hd, h1, extended) =
    let h = i_fields imm rs1 0b000 rd 0b1100111 h1 (omega arith) hd (omega arith) in
    rw (jalr_read _ h.opcode h.funct3, h.target, h.source1, i_immediate_back _ imm h.funct7 h.source2 extended) refl
decoded-encoding (instr.Branch t rs1 rs2 imm) (h1, h2, offset) =
    let h =
    fields_of_word (imm / 2 ^ 12 % 2 * 2 ^ 6 + imm / 2 ^ 5 % 2 ^ 6) rs2 rs1 (branch_code t)
    (imm / 2 % 2 ^ 4 * 2 + imm / 2 ^ 11 % 2) 0b1100011
    (omega arith) h2 h1 (branch_code_fits t) (omega arith) (omega arith) in
    rw (branch_read t _ h.opcode h.funct3, h.source1, h.source2, b_immediate_back _ imm h.funct7 h.target offset) refl
decoded-encoding (instr.Load l rd rs1 imm) (hd, h1, extended) =
    let h = i_fields imm rs1 (load_code l) rd 0b0000011 h1 (load_code_fits l) hd (omega arith) in
    rw (load_read l _ h.opcode h.funct3, h.target, h.source1, i_immediate_back _ imm h.funct7 h.source2 extended) refl
decoded-encoding (instr.Store s rs1 rs2 imm) (h1, h2, extended) =
    let h =
    fields_of_word (imm / 2 ^ 5 % 2 ^ 7) rs2 rs1 (store_code s) (imm % 2 ^ 5) 0b0100011
    (omega arith) h2 h1 (store_code_fits s) (omega arith) (omega arith) in
    rw (store_read s _ h.opcode h.funct3, h.source1, h.source2, s_immediate_back _ imm h.funct7 h.target extended) refl
decoded-encoding (instr.Immediate o rd rs1 imm) (hd, h1, extended) =
    let h = i_fields imm rs1 (immediate_code o) rd 0b0010011 h1 (immediate_code_fits o) hd (omega arith) in
    rw (immediate_read o _ h.opcode h.funct3, h.target, h.source1, i_immediate_back _ imm h.funct7 h.source2 extended)
    refl
decoded-encoding (instr.Shift s rd rs1 amount) (hd, h1, h2) =
    let fits = shift_code_fits s in
    let h =
    fields_of_word (shift_top s) amount rs1 (shift_code s) rd 0b0010011 fits.1 h2 h1 fits.0 hd (omega arith) in
    rw (shift_read s _ h.opcode h.funct3 h.funct7, h.target, h.source1, h.source2) refl
decoded-encoding (instr.Register o rd rs1 rs2) (hd, h1, h2) =
    let fits = register_code_fits o in
    let h =
    fields_of_word (register_top o) rs2 rs1 (register_code o) rd 0b0110011 fits.1 h2 h1 fits.0 hd (omega arith) in
    rw (register_read o _ h.opcode h.funct3 h.funct7, h.target, h.source1, h.source2) refl
decoded-encoding instr.Fence h = fence_read
decoded-encoding instr.Ecall h = ecall_read
decoded-encoding instr.Ebreak h = ebreak_read
