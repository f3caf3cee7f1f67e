-- What instructions compute on words are words, and registers stay registers.
use Rattle.std.proofs.Common.{◌≡◌, ◌≢◌, ℕ, zero, suc, ◌-◌, ◌/◌, ◌%◌, ◌^◌, ◌<◌, ◌≤◌, Bool, true, false, eqb, cond, set, refl, ◌∙◌, arith, ℤ, pos, negsuc, ◌*ℤ◌, neg_ℤ, unsigned_abs, int_div, int_rem, FitsSigned, ◌==◌}
use Rattle.std.specs.Prelude.{bit_and, bit_or, bit_xor, if◌then◌else◌}
use Rattle.std.proofs.Math.Nat.{div-le_self, mod-le, mul-le-mul}
use Rattle.std.proofs.lemmas.Int.{fits_signed_mul, ints}
use Rattle.std.proofs.lemmas.Bool.Decides.{nat_tests}
use Rattle.std.proofs.lemmas.List.{get_or-set_other, length-set}
use Rattle.std.proofs.lemmas.Nat.{or_lt, xor_lt, and_le_l}
use lib.Signed.{mag_shr}
use mir.ValLaws as laws
use Rattle.std.specs.Int.{w32, w64, cast_unsigned, int_shr}
use Rattle.isa_spec.specs.declared.ImmediateOperation.{ImmediateOperation}
use Rattle.isa_spec.specs.declared.ImmediateOperation.TheVariants as immediate
use Rattle.isa_spec.specs.declared.ShiftOperation.{ShiftOperation}
use Rattle.isa_spec.specs.declared.ShiftOperation.TheVariants as shift
use Rattle.isa_spec.specs.declared.RegisterOperation.{RegisterOperation}
use Rattle.isa_spec.specs.declared.RegisterOperation.TheVariants as operation
use Rattle.isa_spec.specs.Words.{signed, is_less, is_less_unsigned, sum_of, difference_of, word_of_test, shifted_left, shifted_right, shifted_right_signed, sign_extended, product_of, high_product, high_product_signed_unsigned, high_product_unsigned, quotient_of, quotient_unsigned, remainder_of, remainder_unsigned}
use Rattle.isa_spec.specs.Registers.{Registers, register, with_register, with_pc}
use Rattle.isa_spec.specs.Operations.{immediate_result, shift_result, register_result}
use Rattle.isa_spec.specs.Encoding.{IsSignExtended}
use Rattle.memo_spec.specs.Encoding.{AreRegisters}
use Rattle.rerun_spec.proofs.Lists.{every-at, every-set}

-- a word
abbrev pub IsWord : ℕ → Type 0
IsWord n = n < 2 ^ 32

pub sum-word : (a b : ℕ) → IsWord (sum_of a b)
sum-word a b = omega arith

difference-word : (a b : ℕ) → IsWord (difference_of a b)
difference-word a b = omega arith

test-word : (b : Bool) → IsWord (word_of_test b)
test-word true = omega arith
test-word false = omega arith

left-word : (a k : ℕ) → IsWord (shifted_left a k)
left-word a k = omega arith

right-word : (a k : ℕ) → IsWord a → IsWord (shifted_right a k)
right-word a k word = let less = div-le_self a (2 ^ (k % 32)) in omega arith

signed_right-word : (a k : ℕ) → IsWord a → IsWord (shifted_right_signed a k)
signed_right-word a k word =
    (laws.of_z_fits w32 (int_shr (signed a) (k % 32))
    (laws.sfits_le (mag_shr (signed a) (2 ^ (k % 32))) (laws.to_z-Fits w32 a (record { fits = word })))).fits

xor-word : (a b : ℕ) → IsWord a → IsWord b → IsWord (bit_xor a b)
xor-word a b word other = xor_lt 32 a b word other

or-word : (a b : ℕ) → IsWord a → IsWord b → IsWord (bit_or a b)
or-word a b word other = or_lt 32 a b word other

and-word : (a b : ℕ) → IsWord a → IsWord (bit_and a b)
and-word a b word = let less = and_le_l a b in omega arith

product-word : (a b : ℕ) → IsWord (product_of a b)
product-word a b = omega arith

-- a word as a number in two's complement is at most 2 ^ 31 away from zero
signed_size : (a : ℕ) → IsWord a → unsigned_abs (signed a) ≤ 2 ^ 31
signed_size a word = omega (arith, ints)

upper-word : (z : ℤ) → FitsSigned w64 z → IsWord (cast_unsigned w64 z / 2 ^ 32)
upper-word z fits = let small = (laws.of_z_fits w64 z fits).fits in omega arith

high-word : (a b : ℕ) → IsWord a → IsWord b → IsWord (high_product a b)
high-word a b word other =
    upper-word (signed a *ℤ signed b)
    (fits_signed_mul w64 (signed a) (signed b) (2 ^ 31) (2 ^ 31) (signed_size a word) (signed_size b other)
    (omega arith))

high_mixed-word : (a b : ℕ) → IsWord a → IsWord b → IsWord (high_product_signed_unsigned a b)
high_mixed-word a b word other =
    upper-word (signed a *ℤ pos b)
    (fits_signed_mul w64 (signed a) (pos b) (2 ^ 31) (2 ^ 32 - 1) (signed_size a word) (omega arith) (omega arith))

below : (a : ℕ) → IsWord a → a ≤ 2 ^ 32 - 1
below a word = omega arith

high_unsigned-word : (a b : ℕ) → IsWord a → IsWord b → IsWord (high_product_unsigned a b)
high_unsigned-word a b word other =
    let most = mul-le-mul {n₂ = 2 ^ 32 - 1} {m₂ = 2 ^ 32 - 1} (below a word) (below b other) in omega arith

near-word : (z : ℤ) → unsigned_abs z ≤ 2 ^ 31 → IsWord (cast_unsigned w32 z)
near-word (pos n) near = omega arith
near-word (negsuc n) near = omega arith

size_of_opposite : (n : ℕ) → unsigned_abs (neg_ℤ (pos n)) ≡ n
size_of_opposite zero = refl
size_of_opposite (suc n) = refl

quotient_size : (a b : ℤ) → unsigned_abs (int_div a b) ≤ unsigned_abs a
quotient_size (pos a) (pos b) = div-le_self a b
quotient_size (pos a) (negsuc b) = omega (arith, size_of_opposite (a / suc b), div-le_self a (suc b))
quotient_size (negsuc a) (pos b) = omega (arith, size_of_opposite (suc a / b), div-le_self (suc a) b)
quotient_size (negsuc a) (negsuc b) = div-le_self (suc a) (suc b)

remainder_size : (a b : ℤ) → unsigned_abs (int_rem a b) ≤ unsigned_abs a
remainder_size (pos a) b = mod-le a (unsigned_abs b)
remainder_size (negsuc a) b = omega (arith, size_of_opposite (suc a % unsigned_abs b), mod-le (suc a) (unsigned_abs b))

either-word : (test : Bool) (m n : ℕ) → IsWord m → IsWord n → IsWord (if test then m else n)
either-word true m n one other = one
either-word false m n one other = other

quotient-word : (a b : ℕ) → IsWord a → IsWord (quotient_of a b)
quotient-word a b word =
    let z = int_div (signed a) (signed b) in
    either-word (b == 0) (2 ^ 32 - 1) (cast_unsigned w32 z) (omega arith)
    (near-word z (omega (arith, quotient_size (signed a) (signed b), signed_size a word)))

quotient_unsigned-word : (a b : ℕ) → IsWord a → IsWord (quotient_unsigned a b)
quotient_unsigned-word a b word =
    either-word (b == 0) (2 ^ 32 - 1) (a / b) (omega arith) (omega (arith, div-le_self a b))

remainder-word : (a b : ℕ) → IsWord a → IsWord (remainder_of a b)
remainder-word a b word =
    let z = int_rem (signed a) (signed b) in
    either-word (b == 0) a (cast_unsigned w32 z) word
    (near-word z (omega (arith, remainder_size (signed a) (signed b), signed_size a word)))

remainder_unsigned-word : (a b : ℕ) → IsWord a → IsWord (remainder_unsigned a b)
remainder_unsigned-word a b word = either-word (b == 0) a (a % b) word (omega (arith, mod-le a b))

pub extended-word : (imm : ℕ) → IsSignExtended 12 imm → IsWord imm
extended-word imm extended = grind (arith, nat_tests, extended)

pub byte-word : (n : ℕ) → n < 2 ^ 8 → IsWord (sign_extended 8 n)
byte-word n small = grind (arith, nat_tests)

pub half-word : (n : ℕ) → n < 2 ^ 16 → IsWord (sign_extended 16 n)
half-word n small = grind (arith, nat_tests)

pub immediate-word : (o : ImmediateOperation) (a b : ℕ) → IsWord a → IsWord b → IsWord (immediate_result o a b)
unfolding immediate_result
immediate-word immediate.Add a b word other = sum-word a b
immediate-word immediate.Less a b word other = test-word (is_less a b)
immediate-word immediate.LessUnsigned a b word other = test-word (is_less_unsigned a b)
immediate-word immediate.Xor a b word other = xor-word a b word other
immediate-word immediate.Or a b word other = or-word a b word other
immediate-word immediate.And a b word other = and-word a b word

pub shift-word : (s : ShiftOperation) (a k : ℕ) → IsWord a → IsWord (shift_result s a k)
unfolding shift_result
shift-word shift.LeftLogical a k word = left-word a k
shift-word shift.RightLogical a k word = right-word a k word
shift-word shift.RightArithmetic a k word = signed_right-word a k word

pub operation-word : (o : RegisterOperation) (a b : ℕ) → IsWord a → IsWord b → IsWord (register_result o a b)
unfolding register_result
operation-word operation.Add a b word other = sum-word a b
operation-word operation.Subtract a b word other = difference-word a b
operation-word operation.ShiftLeftLogical a b word other = left-word a b
operation-word operation.Less a b word other = test-word (is_less a b)
operation-word operation.LessUnsigned a b word other = test-word (is_less_unsigned a b)
operation-word operation.Xor a b word other = xor-word a b word other
operation-word operation.ShiftRightLogical a b word other = right-word a b word
operation-word operation.ShiftRightArithmetic a b word other = signed_right-word a b word
operation-word operation.Or a b word other = or-word a b word other
operation-word operation.And a b word other = and-word a b word
operation-word operation.Multiply a b word other = product-word a b
operation-word operation.MultiplyHigh a b word other = high-word a b word other
operation-word operation.MultiplyHighSignedUnsigned a b word other = high_mixed-word a b word other
operation-word operation.MultiplyHighUnsigned a b word other = high_unsigned-word a b word other
operation-word operation.Divide a b word other = quotient-word a b word
operation-word operation.DivideUnsigned a b word other = quotient_unsigned-word a b word
operation-word operation.Remainder a b word other = remainder-word a b word
operation-word operation.RemainderUnsigned a b word other = remainder_unsigned-word a b word

-- registers

pub register-word : (r : Registers) (n : ℕ) → AreRegisters r → IsWord (register r n)
register-word r n whole = every-at IsWord r.x n 0 (omega arith) whole.words

pub moved-registers : (r : Registers) (pc : ℕ) → AreRegisters r → IsWord pc → AreRegisters (with_pc r pc)
moved-registers r pc whole word =
    record { pc = word; count = whole.count; zero = whole.zero; words = whole.words }

written-at :
    (r : Registers) (n value : ℕ) (b : Bool) → eqb n 0 ≡ b → AreRegisters r → IsWord value
    → AreRegisters (cond b r (record r { x = set r.x n value }))
written-at r n value true is whole word = whole
written-at r n value false is whole word =
    let other : 0 ≢ n = grind (arith, nat_tests) in
    record {
      pc = whole.pc;
      count = length-set r.x n value ∙ whole.count;
      zero = get_or-set_other r.x n 0 value 0 other ∙ whole.zero;
      words = every-set IsWord r.x n value word whole.words;
    }

pub written-registers :
    (r : Registers) (n value : ℕ) → AreRegisters r → IsWord value → AreRegisters (with_register r n value)
unfolding with_register
written-registers r n value whole word = written-at r n value (eqb n 0) refl whole word
