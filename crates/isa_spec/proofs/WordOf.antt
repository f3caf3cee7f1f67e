-- A word that decodes to an instruction encodes it.
use Rattle.std.proofs.Common.{◌≡◌, ℕ, ◌+◌, ◌*◌, ◌/◌, ◌%◌, ◌^◌, ◌<◌, Bool, true, false, ◌&&◌, ◌==◌, if◌then◌else◌, List, [], ◌∷◌, Option, Some, None, refl, arith, subst}
use Rattle.std.specs.Prelude.{IfSome, option_map, ⊤}
use Rattle.std.proofs.lemmas.Bool.Decides.{nat_tests}
use Rattle.isa_spec.specs.declared.Instr.{Instr}
use Rattle.isa_spec.specs.declared.Instr.TheVariants as instr
use Rattle.isa_spec.specs.declared.BranchTest.{BranchTest}
use Rattle.isa_spec.specs.declared.BranchTest.TheVariants as test
use Rattle.isa_spec.specs.declared.Load.{Load}
use Rattle.isa_spec.specs.declared.Load.TheVariants as load
use Rattle.isa_spec.specs.declared.Store.{Store}
use Rattle.isa_spec.specs.declared.Store.TheVariants as store
use Rattle.isa_spec.specs.declared.ImmediateOperation.{ImmediateOperation}
use Rattle.isa_spec.specs.declared.ImmediateOperation.TheVariants as immediate
use Rattle.isa_spec.specs.declared.ShiftOperation.{ShiftOperation}
use Rattle.isa_spec.specs.declared.ShiftOperation.TheVariants as shift
use Rattle.isa_spec.specs.declared.RegisterOperation.{RegisterOperation}
use Rattle.isa_spec.specs.declared.RegisterOperation.TheVariants as register
use Rattle.isa_spec.specs.Fields.{bits, opcode_of, rd_of, funct3_of, rs1_of, rs2_of, funct7_of, i_immediate, s_immediate, b_immediate, u_immediate, j_immediate}
use Rattle.isa_spec.specs.Table.{Wanted, fixed, free, Row, is_wanted, row, one_word, branch_row, load_row, store_row, immediate_row, shift_row, register_row, rows, reading_in, reading_of, decoded}
use Rattle.isa_spec.specs.Encoding.{word_of, i_word, s_word, b_word, u_word, j_word, branch_code, load_code, store_code, immediate_code, shift_code, shift_top, register_code, register_top, InRange, IsWordOf, IsSignExtended, IsOffset, IsUpper}

-- a field is as a row requires
abbrev pub Meets : Wanted → ℕ → Type 0
Meets (fixed n) value = value ≡ n
Meets free value = ⊤

-- a row reads only instructions that its words encode
abbrev pub IsGood : Row → Type 0
IsGood r =
    (w : ℕ) → w < 2 ^ 32 → opcode_of w ≡ r.opcode → Meets r.funct3 (funct3_of w) → Meets r.funct7 (funct7_of w)
    → Meets r.whole w → InRange (r.read w) × IsWordOf w (r.read w)

-- each row is good
abbrev pub AreGood : List Row → Type 0
AreGood [] = ⊤
AreGood (r ∷ rs) = IsGood r × AreGood rs

-- a word is made from its fields
word_of_fields :
    (w : ℕ) → w < 2 ^ 32 → w ≡ word_of (funct7_of w) (rs2_of w) (rs1_of w) (funct3_of w) (rd_of w) (opcode_of w)
word_of_fields w h = omega arith

-- the fields that encode an I-immediate
record FromI (w imm : ℕ) : Type 0 where
  pub high : imm / 2 ^ 5 % 2 ^ 7 ≡ funct7_of w
  pub low : imm % 2 ^ 5 ≡ rs2_of w
  pub extended : IsSignExtended 12 imm

-- a word holds the parts of its I-immediate
from_i : (w : ℕ) → FromI w (i_immediate w)
unfolding i_immediate
from_i w =
    record { high = grind (arith, nat_tests); low = grind (arith, nat_tests); extended = grind (arith, nat_tests) }

-- the fields that encode an S-immediate
record FromS (w imm : ℕ) : Type 0 where
  pub high : imm / 2 ^ 5 % 2 ^ 7 ≡ funct7_of w
  pub low : imm % 2 ^ 5 ≡ rd_of w
  pub extended : IsSignExtended 12 imm

-- a word holds the parts of its S-immediate
from_s : (w : ℕ) → FromS w (s_immediate w)
unfolding s_immediate
from_s w =
    record { high = grind (arith, nat_tests); low = grind (arith, nat_tests); extended = grind (arith, nat_tests) }

-- the fields that encode a B-immediate
record FromB (w imm : ℕ) : Type 0 where
  pub high : imm / 2 ^ 12 % 2 * 2 ^ 6 + imm / 2 ^ 5 % 2 ^ 6 ≡ funct7_of w
  pub low : imm / 2 % 2 ^ 4 * 2 + imm / 2 ^ 11 % 2 ≡ rd_of w
  pub offset : IsOffset 13 imm

-- a word holds the parts of its B-immediate
from_b : (w : ℕ) → FromB w (b_immediate w)
unfolding b_immediate
from_b w =
    record {
      high = grind (arith, nat_tests);
      low = grind (arith, nat_tests);
      offset = (grind (arith, nat_tests), grind (arith, nat_tests));
    }

-- the parts of a word that encode a J-immediate
record FromJ (w imm : ℕ) : Type 0 where
  pub sign : imm / 2 ^ 20 % 2 ≡ bits w 31 31
  pub low : imm / 2 % 2 ^ 10 ≡ bits w 30 21
  pub middle : imm / 2 ^ 11 % 2 ≡ bits w 20 20
  pub high : imm / 2 ^ 12 % 2 ^ 8 ≡ bits w 19 12
  pub offset : IsOffset 21 imm

-- a word holds the parts of its J-immediate
from_j : (w : ℕ) → FromJ w (j_immediate w)
unfolding j_immediate
from_j w =
    record {
      sign = grind (arith, nat_tests);
      low = grind (arith, nat_tests);
      middle = grind (arith, nat_tests);
      high = grind (arith, nat_tests);
      offset = (grind (arith, nat_tests), grind (arith, nat_tests));
    }

-- a word of the I-type is the I-type word of what it is read as
i_word_back :
    (w f3 op : ℕ) → w < 2 ^ 32 → opcode_of w ≡ op → funct3_of w ≡ f3
    → w ≡ i_word (i_immediate w) (rs1_of w) f3 (rd_of w) op
i_word_back w f3 op h e3 eo =
    let h' = from_i w in let whole = word_of_fields w h in rw (h'.high, h'.low, ← eo, ← e3) whole

-- a word of the S-type is the S-type word of what it is read as
s_word_back :
    (w f3 op : ℕ) → w < 2 ^ 32 → opcode_of w ≡ op → funct3_of w ≡ f3
    → w ≡ s_word (s_immediate w) (rs2_of w) (rs1_of w) f3 op
s_word_back w f3 op h e3 eo =
    let h' = from_s w in let whole = word_of_fields w h in rw (h'.high, h'.low, ← eo, ← e3) whole

-- a word of the B-type is the B-type word of what it is read as
b_word_back :
    (w f3 op : ℕ) → w < 2 ^ 32 → opcode_of w ≡ op → funct3_of w ≡ f3
    → w ≡ b_word (b_immediate w) (rs2_of w) (rs1_of w) f3 op
b_word_back w f3 op h e3 eo =
    let h' = from_b w in let whole = word_of_fields w h in rw (h'.high, h'.low, ← eo, ← e3) whole

-- a word of six known fields
r_word_back :
    (w f7 f3 op : ℕ) → w < 2 ^ 32 → opcode_of w ≡ op → funct3_of w ≡ f3 → funct7_of w ≡ f7
    → w ≡ word_of f7 (rs2_of w) (rs1_of w) f3 (rd_of w) op
r_word_back w f7 f3 op h eo e3 e7 = let whole = word_of_fields w h in rw (← eo, ← e3, ← e7) whole

-- a word of the U-type is the U-type word of what it is read as
u_word_back :
    (w op : ℕ) → w < 2 ^ 32 → opcode_of w ≡ op → IsUpper (u_immediate w) × (w ≡ u_word (u_immediate w) (rd_of w) op)
unfolding u_immediate
u_word_back w op h eo = ((omega arith, omega arith), omega arith)

-- a word of the J-type is the J-type word of what it is read as
j_word_back : (w op : ℕ) → w < 2 ^ 32 → opcode_of w ≡ op → w ≡ j_word (j_immediate w) (rd_of w) op
j_word_back w op h eo = let h' = from_j w in rw (h'.sign, h'.low, h'.middle, h'.high, ← eo) (omega arith)

-- the row of LUI
lui_good : IsGood (row 0b0110111 free free (λ w. instr.Lui (rd_of w) (u_immediate w)))
lui_good w h op f3 f7 whole = let b = u_word_back w 0b0110111 h op in ((omega arith, b.0), b.1)

-- the row of AUIPC
auipc_good : IsGood (row 0b0010111 free free (λ w. instr.Auipc (rd_of w) (u_immediate w)))
auipc_good w h op f3 f7 whole = let b = u_word_back w 0b0010111 h op in ((omega arith, b.0), b.1)

-- the row of JAL
jal_good : IsGood (row 0b1101111 free free (λ w. instr.Jal (rd_of w) (j_immediate w)))
jal_good w h op f3 f7 whole = ((omega arith, (from_j w).offset), j_word_back w 0b1101111 h op)

-- the row of JALR
jalr_good : IsGood (row 0b1100111 (fixed 0b000) free (λ w. instr.Jalr (rd_of w) (rs1_of w) (i_immediate w)))
jalr_good w h op f3 f7 whole = ((omega arith, omega arith, (from_i w).extended), i_word_back w 0b000 0b1100111 h op f3)

-- the rows of the branches
branch_good : (t : BranchTest) → IsGood (branch_row (branch_code t) t)
branch_good t w h op f3 f7 whole =
    ((omega arith, omega arith, (from_b w).offset), b_word_back w (branch_code t) 0b1100011 h op f3)

-- the rows of the loads
load_good : (l : Load) → IsGood (load_row (load_code l) l)
load_good l w h op f3 f7 whole =
    ((omega arith, omega arith, (from_i w).extended), i_word_back w (load_code l) 0b0000011 h op f3)

-- the rows of the stores
store_good : (s : Store) → IsGood (store_row (store_code s) s)
store_good s w h op f3 f7 whole =
    ((omega arith, omega arith, (from_s w).extended), s_word_back w (store_code s) 0b0100011 h op f3)

-- the rows of the operations with an immediate
immediate_good : (o : ImmediateOperation) → IsGood (immediate_row (immediate_code o) o)
immediate_good o w h op f3 f7 whole =
    ((omega arith, omega arith, (from_i w).extended), i_word_back w (immediate_code o) 0b0010011 h op f3)

-- the rows of the shifts by a constant
shift_good : (s : ShiftOperation) → IsGood (shift_row (shift_top s) (shift_code s) s)
shift_good s w h op f3 f7 whole =
    ((omega arith, omega arith, omega arith), r_word_back w (shift_top s) (shift_code s) 0b0010011 h op f3 f7)

-- the rows of the operations on two registers
register_good : (o : RegisterOperation) → IsGood (register_row (register_top o) (register_code o) o)
register_good o w h op f3 f7 whole =
    ((omega arith, omega arith, omega arith), r_word_back w (register_top o) (register_code o) 0b0110011 h op f3 f7)

-- the row of FENCE
fence_good : IsGood (row 0b0001111 (fixed 0b000) free (λ _. instr.Fence))
fence_good w h op f3 f7 whole = (tt, (op, f3))

-- the row of ECALL
ecall_good : IsGood (one_word 0b1110011 0x00000073 instr.Ecall)
ecall_good w h op f3 f7 whole = (tt, whole)

-- the row of EBREAK
ebreak_good : IsGood (one_word 0b1110011 0x00100073 instr.Ebreak)
ebreak_good w h op f3 f7 whole = (tt, whole)

-- each row of the table is good
rows_good : AreGood rows
rows_good = (lui_good, (auipc_good, (jal_good, (jalr_good, (branch_good test.Equal, (branch_good test.NotEqual, (branch_good test.Less, (branch_good test.GreaterOrEqual, (branch_good test.LessUnsigned, (branch_good test.GreaterOrEqualUnsigned, (load_good load.Byte, (load_good load.Half, (load_good load.Word, (load_good load.ByteUnsigned, (load_good load.HalfUnsigned, (store_good store.Byte, (store_good store.Half, (store_good store.Word, (immediate_good immediate.Add, (immediate_good immediate.Less, (immediate_good immediate.LessUnsigned, (immediate_good immediate.Xor, (immediate_good immediate.Or, (immediate_good immediate.And, (shift_good shift.LeftLogical, (shift_good shift.RightLogical, (shift_good shift.RightArithmetic, (register_good register.Add, (register_good register.Subtract, (register_good register.ShiftLeftLogical, (register_good register.Less, (register_good register.LessUnsigned, (register_good register.Xor, (register_good register.ShiftRightLogical, (register_good register.ShiftRightArithmetic, (register_good register.Or, (register_good register.And, (register_good register.Multiply, (register_good register.MultiplyHigh, (register_good register.MultiplyHighSignedUnsigned, (register_good register.MultiplyHighUnsigned, (register_good register.Divide, (register_good register.DivideUnsigned, (register_good register.Remainder, (register_good register.RemainderUnsigned, (fence_good, (ecall_good, (ebreak_good, tt))))))))))))))))))))))))))))))))))))))))))))))))

-- both parts of a test that passed
both : (a b : Bool) → (a && b) ≡ true → (a ≡ true) × (b ≡ true)
both true b h = (refl, h)
both false b h = cc

-- what a field's test states
meets : (wanted : Wanted) (value : ℕ) → is_wanted wanted value ≡ true → Meets wanted value
meets (fixed n) value h = grind (arith, nat_tests, h)
meets free value h = tt

-- what a row's test states
row_meets :
    (r : Row) (op f3 f7 w : ℕ)
    → (op == r.opcode && (is_wanted r.funct3 f3 && (is_wanted r.funct7 f7 && is_wanted r.whole w))) ≡ true
    → (op ≡ r.opcode) × Meets r.funct3 f3 × Meets r.funct7 f7 × Meets r.whole w
row_meets r op f3 f7 w passed =
    let a = both (op == r.opcode) (is_wanted r.funct3 f3 && (is_wanted r.funct7 f7 && is_wanted r.whole w)) passed in
    let b = both (is_wanted r.funct3 f3) (is_wanted r.funct7 f7 && is_wanted r.whole w) a.1 in
    let c = both (is_wanted r.funct7 f7) (is_wanted r.whole w) b.1 in (
      grind (arith, nat_tests, a.0),
      meets r.funct3 f3 b.0,
      meets r.funct7 f7 c.0,
      meets r.whole w c.1,
    )

-- a choice between a row's reading and that of the others
chosen :
    (b : Bool) (read : ℕ → Instr) (others : Option (ℕ → Instr)) (w : ℕ) (i : Instr) (P : Instr → Type 0)
    → (b ≡ true → P (read w)) → (option_map (λ f. f w) others ≡ Some i → P i)
    → option_map (λ f. f w) (if b then Some read else others) ≡ Some i → P i
chosen true read others w i P here there e = let same : read w ≡ i = cc in subst P same (here refl)
chosen false read others w i P here there e = there e

-- an instruction that good rows read is encoded by the word
found_in :
    (rs : List Row) → AreGood rs → (w : ℕ) (i : Instr) → w < 2 ^ 32
    → option_map (λ f. f w) (reading_in rs (opcode_of w) (funct3_of w) (funct7_of w) w) ≡ Some i
    → InRange i × IsWordOf w i
found_in [] good w i h e = cc
found_in (r ∷ rs) good w i h e =
    chosen
    (opcode_of w == r.opcode &&
    (is_wanted r.funct3 (funct3_of w) && (is_wanted r.funct7 (funct7_of w) && is_wanted r.whole w)))
    r.read
    (reading_in rs (opcode_of w) (funct3_of w) (funct7_of w) w)
    w
    i
    (λ j. InRange j × IsWordOf w j)
    (λ passed. let m = row_meets r (opcode_of w) (funct3_of w) (funct7_of w) w passed in good.0 w h m.0 m.1 m.2 m.3)
    (λ later. found_in rs good.1 w i h later)
    e

-- a word that decodes to an instruction encodes it
pub decoded-spells : (w : ℕ) (i : Instr) → w < 2 ^ 32 → decoded w ≡ Some i → InRange i × IsWordOf w i
unfolding decoded reading_of
decoded-spells w i h e = found_in rows rows_good w i h e

-- a property of the value of an option, if it follows for each value that the option may have
if_some : {X : Type 0} (o : Option X) (P : X → Type 0) → ((x : X) → o ≡ Some x → P x) → IfSome o P
if_some None P h = tt
if_some (Some x) P h = h x refl

-- what a word decodes to has its operands in range
pub decoded_in_range : (w : ℕ) → w < 2 ^ 32 → IfSome (decoded w) InRange
decoded_in_range w h = if_some (decoded w) InRange (λ i e. (decoded-spells w i h e).0)
