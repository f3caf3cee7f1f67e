-- The fields of an instruction's word, and its immediates by form.
use Rattle.std.specs.Prelude.{ℕ, ◌+◌, ◌-◌, ◌*◌, ◌/◌, ◌%◌, ◌^◌}
use Rattle.isa_spec.specs.Words.{sign_extended}

-- bits high to low of a word (RISC-V unprivileged ISA 20191213, 2.2, figure 2.2)
abbrev pub bits : ℕ → ℕ → ℕ → ℕ
bits w high low = w / 2 ^ low % 2 ^ (high + 1 - low)

-- which group of instructions it is (RISC-V unprivileged ISA 20191213, 2.2)
abbrev pub opcode_of : ℕ → ℕ
opcode_of w = bits w 6 0

-- the register written (RISC-V unprivileged ISA 20191213, 2.2)
abbrev pub rd_of : ℕ → ℕ
rd_of w = bits w 11 7

-- distinguishes instructions of one opcode (RISC-V unprivileged ISA 20191213, 2.2)
abbrev pub funct3_of : ℕ → ℕ
funct3_of w = bits w 14 12

-- the first register read (RISC-V unprivileged ISA 20191213, 2.2)
abbrev pub rs1_of : ℕ → ℕ
rs1_of w = bits w 19 15

-- the second register read, or the amount of a shift (RISC-V unprivileged ISA 20191213, 2.2)
abbrev pub rs2_of : ℕ → ℕ
rs2_of w = bits w 24 20

-- distinguishes instructions of one opcode and funct3 (RISC-V unprivileged ISA 20191213, 2.2)
abbrev pub funct7_of : ℕ → ℕ
funct7_of w = bits w 31 25

-- the I-immediate (RISC-V unprivileged ISA 20191213, 2.3, figure 2.4)
unfoldable pub i_immediate : ℕ → ℕ
i_immediate w = sign_extended 12 (bits w 31 20)

-- the S-immediate (RISC-V unprivileged ISA 20191213, 2.3, figure 2.4)
unfoldable pub s_immediate : ℕ → ℕ
s_immediate w = sign_extended 12 (bits w 31 25 * 2 ^ 5 + bits w 11 7)

-- the B-immediate (RISC-V unprivileged ISA 20191213, 2.3, figure 2.4)
unfoldable pub b_immediate : ℕ → ℕ
b_immediate w =
    sign_extended 13
    (bits w 31 31 * 2 ^ 12 + bits w 7 7 * 2 ^ 11 + bits w 30 25 * 2 ^ 5 + bits w 11 8 * 2)

-- the U-immediate (RISC-V unprivileged ISA 20191213, 2.3, figure 2.4)
unfoldable pub u_immediate : ℕ → ℕ
u_immediate w = bits w 31 12 * 2 ^ 12

-- the J-immediate (RISC-V unprivileged ISA 20191213, 2.3, figure 2.4)
unfoldable pub j_immediate : ℕ → ℕ
j_immediate w =
    sign_extended 21
    (bits w 31 31 * 2 ^ 20 + bits w 19 12 * 2 ^ 12 + bits w 20 20 * 2 ^ 11 + bits w 30 21 * 2)
