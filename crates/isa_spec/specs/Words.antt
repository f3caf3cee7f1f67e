-- Words, and what the integer instructions compute on them. A word is a number below 2 ^ 32.
use Rattle.std.specs.Prelude.{ℕ, ◌+◌, ◌-◌, ◌*◌, ◌/◌, ◌%◌, ◌^◌, ◌==◌, Bool, ℤ, pos, ◌*ℤ◌, int_div, int_rem, int_lt, nat_lt, if◌then◌else◌}
use Rattle.std.specs.Int.{w32, w64, cast_signed, cast_unsigned, int_shr}

-- the sum, overflow ignored (RISC-V unprivileged ISA 20191213, 2.4, Integer Register-Register Operations)
abbrev pub sum_of : ℕ → ℕ → ℕ
sum_of a b = (a + b) % 2 ^ 32

-- the first less the second, overflow ignored (RISC-V unprivileged ISA 20191213, 2.4, Integer Register-Register
-- Operations)
abbrev pub difference_of : ℕ → ℕ → ℕ
difference_of a b = (a + (2 ^ 32 - b)) % 2 ^ 32

-- a word read as a number in two's complement (RISC-V unprivileged ISA 20191213, 2.1)
abbrev pub signed : ℕ → ℤ
signed a = cast_signed w32 a

-- whether the first is less, both read as signed numbers (RISC-V unprivileged ISA 20191213, 2.4, Integer
-- Register-Register Operations)
abbrev pub is_less : ℕ → ℕ → Bool
is_less a b = int_lt (signed a) (signed b)

-- whether the first is less, both read as unsigned numbers (RISC-V unprivileged ISA 20191213, 2.4, Integer
-- Register-Register Operations)
abbrev pub is_less_unsigned : ℕ → ℕ → Bool
is_less_unsigned a b = nat_lt a b

-- the word of a comparison: 1 if it holds, else 0 (RISC-V unprivileged ISA 20191213, 2.4, Integer Register-Immediate
-- Instructions)
abbrev pub word_of_test : Bool → ℕ
word_of_test holds = if holds then 1 else 0

-- shifted left, by the low five bits of the amount (RISC-V unprivileged ISA 20191213, 2.4, Integer Register-Register
-- Operations)
abbrev pub shifted_left : ℕ → ℕ → ℕ
shifted_left a amount = a * 2 ^ (amount % 32) % 2 ^ 32

-- shifted right with zeros, by the low five bits of the amount (RISC-V unprivileged ISA 20191213, 2.4, Integer
-- Register-Register Operations)
abbrev pub shifted_right : ℕ → ℕ → ℕ
shifted_right a amount = a / 2 ^ (amount % 32)

-- shifted right with copies of the sign bit, by the low five bits of the amount
-- (RISC-V unprivileged ISA 20191213, 2.4, Integer Register-Register Operations)
abbrev pub shifted_right_signed : ℕ → ℕ → ℕ
shifted_right_signed a amount = cast_unsigned w32 (int_shr (signed a) (amount % 32))

-- the low bits of a number as a word: the topmost of them is copied upwards
-- (RISC-V unprivileged ISA 20191213, 2.2)
abbrev pub sign_extended : ℕ → ℕ → ℕ
sign_extended bits n = if nat_lt n (2 ^ (bits - 1)) then n else n + (2 ^ 32 - 2 ^ bits)

-- the low word of the product (RISC-V unprivileged ISA 20191213, 7.1)
abbrev pub product_of : ℕ → ℕ → ℕ
product_of a b = a * b % 2 ^ 32

-- the high word of the product of 64 bits, both read as signed numbers (RISC-V unprivileged ISA 20191213, 7.1)
abbrev pub high_product : ℕ → ℕ → ℕ
high_product a b = cast_unsigned w64 (signed a *ℤ signed b) / 2 ^ 32

-- the same, the first read as a signed number and the second as an unsigned one (RISC-V unprivileged ISA 20191213, 7.1)
abbrev pub high_product_signed_unsigned : ℕ → ℕ → ℕ
high_product_signed_unsigned a b = cast_unsigned w64 (signed a *ℤ pos b) / 2 ^ 32

-- the same, both read as unsigned numbers (RISC-V unprivileged ISA 20191213, 7.1)
abbrev pub high_product_unsigned : ℕ → ℕ → ℕ
high_product_unsigned a b = a * b / 2 ^ 32

-- the quotient, rounded toward zero, both read as signed numbers: by zero all bits are one, and that of -2 ^ 31 by -1,
-- the only one that doesn't fit, is -2 ^ 31 (RISC-V unprivileged ISA 20191213, 7.2)
abbrev pub quotient_of : ℕ → ℕ → ℕ
quotient_of a b = if b == 0 then 2 ^ 32 - 1 else cast_unsigned w32 (int_div (signed a) (signed b))

-- the quotient, both read as unsigned numbers: by zero all bits are one (RISC-V unprivileged ISA 20191213, 7.2)
abbrev pub quotient_unsigned : ℕ → ℕ → ℕ
quotient_unsigned a b = if b == 0 then 2 ^ 32 - 1 else a / b

-- the remainder, with the sign of the first, both read as signed numbers: by zero it is the first, and that of -2 ^ 31
-- by -1 is 0 (RISC-V unprivileged ISA 20191213, 7.2)
abbrev pub remainder_of : ℕ → ℕ → ℕ
remainder_of a b = if b == 0 then a else cast_unsigned w32 (int_rem (signed a) (signed b))

-- the remainder, both read as unsigned numbers: by zero it is the first (RISC-V unprivileged ISA 20191213, 7.2)
abbrev pub remainder_unsigned : ℕ → ℕ → ℕ
remainder_unsigned a b = if b == 0 then a else a % b
