-- The results, on words, of the instructions that compute.
use Rattle.std.specs.Prelude.{ℕ, Bool, not, ◌==◌, bit_and, bit_or, bit_xor}
use Rattle.isa_spec.specs.declared.BranchTest.{BranchTest}
use Rattle.isa_spec.specs.declared.BranchTest.TheVariants as test
use Rattle.isa_spec.specs.declared.ImmediateOperation.{ImmediateOperation}
use Rattle.isa_spec.specs.declared.ImmediateOperation.TheVariants as immediate
use Rattle.isa_spec.specs.declared.ShiftOperation.{ShiftOperation}
use Rattle.isa_spec.specs.declared.ShiftOperation.TheVariants as shift
use Rattle.isa_spec.specs.declared.RegisterOperation.{RegisterOperation}
use Rattle.isa_spec.specs.declared.RegisterOperation.TheVariants as register
use Rattle.isa_spec.specs.Words.{sum_of, difference_of, is_less, is_less_unsigned, word_of_test, shifted_left, shifted_right, shifted_right_signed, product_of, high_product, high_product_signed_unsigned, high_product_unsigned, quotient_of, quotient_unsigned, remainder_of, remainder_unsigned}

-- whether a branch on these operands is taken (RISC-V unprivileged ISA 20191213, 2.5)
unfoldable pub branch_taken : BranchTest → ℕ → ℕ → Bool
branch_taken test.Equal a b = a == b
branch_taken test.NotEqual a b = not (a == b)
branch_taken test.Less a b = is_less a b
branch_taken test.GreaterOrEqual a b = not (is_less a b)
branch_taken test.LessUnsigned a b = is_less_unsigned a b
branch_taken test.GreaterOrEqualUnsigned a b = not (is_less_unsigned a b)

-- the result on a register and an extended immediate (RISC-V unprivileged ISA 20191213, 2.4, Integer Register-Immediate
-- Instructions)
unfoldable pub immediate_result : ImmediateOperation → ℕ → ℕ → ℕ
immediate_result immediate.Add a b = sum_of a b
immediate_result immediate.Less a b = word_of_test (is_less a b)
immediate_result immediate.LessUnsigned a b = word_of_test (is_less_unsigned a b)
immediate_result immediate.Xor a b = bit_xor a b
immediate_result immediate.Or a b = bit_or a b
immediate_result immediate.And a b = bit_and a b

-- the result of a shift by a constant (RISC-V unprivileged ISA 20191213, 2.4, Integer Register-Immediate Instructions)
unfoldable pub shift_result : ShiftOperation → ℕ → ℕ → ℕ
shift_result shift.LeftLogical a amount = shifted_left a amount
shift_result shift.RightLogical a amount = shifted_right a amount
shift_result shift.RightArithmetic a amount = shifted_right_signed a amount

-- the result on two registers (RISC-V unprivileged ISA 20191213, 2.4, Integer Register-Register Operations, and 7.1 and
-- 7.2)
unfoldable pub register_result : RegisterOperation → ℕ → ℕ → ℕ
register_result register.Add a b = sum_of a b
register_result register.Subtract a b = difference_of a b
register_result register.ShiftLeftLogical a b = shifted_left a b
register_result register.Less a b = word_of_test (is_less a b)
register_result register.LessUnsigned a b = word_of_test (is_less_unsigned a b)
register_result register.Xor a b = bit_xor a b
register_result register.ShiftRightLogical a b = shifted_right a b
register_result register.ShiftRightArithmetic a b = shifted_right_signed a b
register_result register.Or a b = bit_or a b
register_result register.And a b = bit_and a b
register_result register.Multiply a b = product_of a b
register_result register.MultiplyHigh a b = high_product a b
register_result register.MultiplyHighSignedUnsigned a b = high_product_signed_unsigned a b
register_result register.MultiplyHighUnsigned a b = high_product_unsigned a b
register_result register.Divide a b = quotient_of a b
register_result register.DivideUnsigned a b = quotient_unsigned a b
register_result register.Remainder a b = remainder_of a b
register_result register.RemainderUnsigned a b = remainder_unsigned a b
