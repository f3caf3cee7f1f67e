-- The fields of a word that was made from fields, and the immediates that are read back.
use Rattle.std.proofs.Common.{◌≡◌, ℕ, ◌+◌, ◌*◌, ◌/◌, ◌%◌, ◌^◌, ◌<◌, arith}
use Rattle.std.proofs.lemmas.Bool.Decides.{nat_tests}
use Rattle.isa_spec.specs.Fields.{bits, opcode_of, rd_of, funct3_of, rs1_of, rs2_of, funct7_of, i_immediate, s_immediate, b_immediate, u_immediate, j_immediate}
use Rattle.isa_spec.specs.Encoding.{word_of, u_word, j_word, IsSignExtended, IsOffset, IsUpper}

-- what the six fields of a word are
pub record Has (w f7 rs2 rs1 f3 rd op : ℕ) : Type 0 where
  pub funct7 : funct7_of w ≡ f7
  pub source2 : rs2_of w ≡ rs2
  pub source1 : rs1_of w ≡ rs1
  pub funct3 : funct3_of w ≡ f3
  pub target : rd_of w ≡ rd
  pub opcode : opcode_of w ≡ op

-- a word has the fields that it was made from
pub fields_of_word :
    (f7 rs2 rs1 f3 rd op : ℕ) → f7 < 2 ^ 7 → rs2 < 2 ^ 5 → rs1 < 2 ^ 5 → f3 < 2 ^ 3 → rd < 2 ^ 5 → op < 2 ^ 7
    → Has (word_of f7 rs2 rs1 f3 rd op) f7 rs2 rs1 f3 rd op
fields_of_word f7 rs2 rs1 f3 rd op h7 h2 h1 h3 hd ho =
    record {
      funct7 = omega arith;
      source2 = omega arith;
      source1 = omega arith;
      funct3 = omega arith;
      target = omega arith;
      opcode = omega arith;
    }

-- the I-immediate is read back from the two fields that hold it
pub i_immediate_back :
    (w imm : ℕ) → funct7_of w ≡ imm / 2 ^ 5 % 2 ^ 7 → rs2_of w ≡ imm % 2 ^ 5 → IsSignExtended 12 imm
    → i_immediate w ≡ imm
unfolding i_immediate
i_immediate_back w imm high low extended = grind (arith, nat_tests, high, low, extended)

-- the S-immediate is read back from the two fields that hold it
pub s_immediate_back :
    (w imm : ℕ) → funct7_of w ≡ imm / 2 ^ 5 % 2 ^ 7 → rd_of w ≡ imm % 2 ^ 5 → IsSignExtended 12 imm
    → s_immediate w ≡ imm
unfolding s_immediate
s_immediate_back w imm high low extended = grind (arith, nat_tests, high, low, extended)

-- the B-immediate is read back from the two fields that hold it
pub b_immediate_back :
    (w imm : ℕ) → funct7_of w ≡ imm / 2 ^ 12 % 2 * 2 ^ 6 + imm / 2 ^ 5 % 2 ^ 6
    → rd_of w ≡ imm / 2 % 2 ^ 4 * 2 + imm / 2 ^ 11 % 2 → IsOffset 13 imm → b_immediate w ≡ imm
unfolding b_immediate
b_immediate_back w imm high low (extended, even) = grind (arith, nat_tests, high, low, extended, even)

-- the fields of a word with an upper immediate
pub record HasUpper (w imm rd op : ℕ) : Type 0 where
  pub immediate : u_immediate w ≡ imm
  pub target : rd_of w ≡ rd
  pub opcode : opcode_of w ≡ op

-- an upper immediate, its register and opcode are read back
pub fields_of_u_word : (imm rd op : ℕ) → IsUpper imm → rd < 2 ^ 5 → op < 2 ^ 7 → HasUpper (u_word imm rd op) imm rd op
unfolding u_immediate
fields_of_u_word imm rd op (fits, zeros) hd ho =
    record { immediate = omega arith; target = omega arith; opcode = omega arith }

-- the fields of a word with a jump's offset
pub record HasJump (w imm rd op : ℕ) : Type 0 where
  pub immediate : j_immediate w ≡ imm
  pub target : rd_of w ≡ rd
  pub opcode : opcode_of w ≡ op

-- the parts of a word with a jump's offset
j_parts : (imm rd op : ℕ) → rd < 2 ^ 5 → op < 2 ^ 7 →
    (bits (j_word imm rd op) 31 31 ≡ imm / 2 ^ 20 % 2)
    × (bits (j_word imm rd op) 19 12 ≡ imm / 2 ^ 12 % 2 ^ 8)
    × (bits (j_word imm rd op) 20 20 ≡ imm / 2 ^ 11 % 2)
    × (bits (j_word imm rd op) 30 21 ≡ imm / 2 % 2 ^ 10)
j_parts imm rd op hd ho = (omega arith, omega arith, omega arith, omega arith)

-- the J-immediate is read back from its parts
j_immediate_back :
    (w imm : ℕ) → bits w 31 31 ≡ imm / 2 ^ 20 % 2 → bits w 19 12 ≡ imm / 2 ^ 12 % 2 ^ 8
    → bits w 20 20 ≡ imm / 2 ^ 11 % 2 → bits w 30 21 ≡ imm / 2 % 2 ^ 10 → IsOffset 21 imm → j_immediate w ≡ imm
unfolding j_immediate
j_immediate_back w imm sign high middle low (extended, even) =
    rw (sign, high, middle, low) (grind (arith, nat_tests, extended, even))

-- a jump's offset, its register and opcode are read back
pub fields_of_j_word :
    (imm rd op : ℕ) → IsOffset 21 imm → rd < 2 ^ 5 → op < 2 ^ 7 → HasJump (j_word imm rd op) imm rd op
fields_of_j_word imm rd op offset hd ho =
    let p = j_parts imm rd op hd ho in
    record {
      immediate = j_immediate_back (j_word imm rd op) imm p.0 p.1 p.2 p.3 offset;
      target = omega arith;
      opcode = omega arith;
    }
