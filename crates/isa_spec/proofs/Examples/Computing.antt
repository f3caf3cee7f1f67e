-- What the operations give, computed from their definitions. The expected values are from QEMU.
use Rattle.std.proofs.Common.{◌≡◌, true, false, refl}
use Rattle.isa_spec.specs.declared.BranchTest.TheVariants as test
use Rattle.isa_spec.specs.declared.ImmediateOperation.TheVariants as immediate
use Rattle.isa_spec.specs.declared.ShiftOperation.TheVariants as shift
use Rattle.isa_spec.specs.declared.RegisterOperation.TheVariants as register
use Rattle.isa_spec.specs.Operations.{branch_taken, immediate_result, shift_result, register_result}

-- add ffffffff 00000001 00000000
pub a_sum_wraps : register_result register.Add 0xffffffff 0x00000001 ≡ 0x00000000
unfolding register_result
a_sum_wraps = refl

-- add 7fffffff 7fffffff fffffffe
pub a_sum_of_large_words : register_result register.Add 0x7fffffff 0x7fffffff ≡ 0xfffffffe
unfolding register_result
a_sum_of_large_words = refl

-- sub 00000000 00000001 ffffffff
pub a_difference_wraps : register_result register.Subtract 0x00000000 0x00000001 ≡ 0xffffffff
unfolding register_result
a_difference_wraps = refl

-- sub 12345678 deadbeef 33869789
pub a_difference : register_result register.Subtract 0x12345678 0xdeadbeef ≡ 0x33869789
unfolding register_result
a_difference = refl

-- sub 12345678 12345678 00000000
pub a_word_less_itself : register_result register.Subtract 0x12345678 0x12345678 ≡ 0x00000000
unfolding register_result
a_word_less_itself = refl

-- slt 80000001 3c2e0a80 00000001
pub the_least_word_is_less : register_result register.Less 0x80000001 0x3c2e0a80 ≡ 0x00000001
unfolding register_result
the_least_word_is_less = refl

-- slt 7fffffff 80000000 00000000
pub a_positive_word_is_not_less : register_result register.Less 0x7fffffff 0x80000000 ≡ 0x00000000
unfolding register_result
a_positive_word_is_not_less = refl

-- slt 7fffffff 7fffffff 00000000
pub no_word_is_less_than_itself : register_result register.Less 0x7fffffff 0x7fffffff ≡ 0x00000000
unfolding register_result
no_word_is_less_than_itself = refl

-- sltu 7fffffff 80000000 00000001
pub unsigned_the_sign_bit_is_large : register_result register.LessUnsigned 0x7fffffff 0x80000000 ≡ 0x00000001
unfolding register_result
unsigned_the_sign_bit_is_large = refl

-- sltu ffffffff 80000000 00000000
pub unsigned_all_ones_is_not_less : register_result register.LessUnsigned 0xffffffff 0x80000000 ≡ 0x00000000
unfolding register_result
unsigned_all_ones_is_not_less = refl

-- sll 80000001 00000021 00000002
pub a_shift_left_by_33_is_by_one : register_result register.ShiftLeftLogical 0x80000001 0x00000021 ≡ 0x00000002
unfolding register_result
a_shift_left_by_33_is_by_one = refl

-- sll ffffffff 00000020 ffffffff
pub a_shift_left_by_32_is_by_none : register_result register.ShiftLeftLogical 0xffffffff 0x00000020 ≡ 0xffffffff
unfolding register_result
a_shift_left_by_32_is_by_none = refl

-- sll ffffffff ffffffe1 fffffffe
pub a_shift_left_by_a_negative_word : register_result register.ShiftLeftLogical 0xffffffff 0xffffffe1 ≡ 0xfffffffe
unfolding register_result
a_shift_left_by_a_negative_word = refl

-- srl 80000001 00000021 40000000
pub a_shift_right_by_33_is_by_one : register_result register.ShiftRightLogical 0x80000001 0x00000021 ≡ 0x40000000
unfolding register_result
a_shift_right_by_33_is_by_one = refl

-- srl 80000001 0000001e 00000002
pub a_shift_right_fills_with_zeros : register_result register.ShiftRightLogical 0x80000001 0x0000001e ≡ 0x00000002
unfolding register_result
a_shift_right_fills_with_zeros = refl

-- sra 80000001 00000021 c0000000
pub an_arithmetic_shift_by_33_is_by_one :
    register_result register.ShiftRightArithmetic 0x80000001 0x00000021 ≡ 0xc0000000
unfolding register_result
an_arithmetic_shift_by_33_is_by_one = refl

-- sra 80000001 0000001e fffffffe
pub an_arithmetic_shift_fills_with_the_sign :
    register_result register.ShiftRightArithmetic 0x80000001 0x0000001e ≡ 0xfffffffe
unfolding register_result
an_arithmetic_shift_fills_with_the_sign = refl

-- sra 7fffffff 00000010 00007fff
pub an_arithmetic_shift_of_a_positive_word :
    register_result register.ShiftRightArithmetic 0x7fffffff 0x00000010 ≡ 0x00007fff
unfolding register_result
an_arithmetic_shift_of_a_positive_word = refl

-- xor 12345678 deadbeef cc99e897
pub an_exclusive_or : register_result register.Xor 0x12345678 0xdeadbeef ≡ 0xcc99e897
unfolding register_result
an_exclusive_or = refl

-- or 12345678 deadbeef debdfeff
pub an_or : register_result register.Or 0x12345678 0xdeadbeef ≡ 0xdebdfeff
unfolding register_result
an_or = refl

-- and 12345678 deadbeef 12241668
pub an_and : register_result register.And 0x12345678 0xdeadbeef ≡ 0x12241668
unfolding register_result
an_and = refl

-- mul ffffffff ffffffff 00000001
pub a_product : register_result register.Multiply 0xffffffff 0xffffffff ≡ 0x00000001
unfolding register_result
a_product = refl

-- mulh ffffffff ffffffff 00000000
pub a_high_product_of_negative_words : register_result register.MultiplyHigh 0xffffffff 0xffffffff ≡ 0x00000000
unfolding register_result
a_high_product_of_negative_words = refl

-- mulh 00000001 80000000 ffffffff
pub a_high_product_of_a_negative_word : register_result register.MultiplyHigh 0x00000001 0x80000000 ≡ 0xffffffff
unfolding register_result
a_high_product_of_a_negative_word = refl

-- mulhsu ffffffff ffffffff ffffffff
pub a_high_product_of_a_negative_and_an_unsigned_word : register_result register.MultiplyHighSignedUnsigned 0xffffffff 0xffffffff ≡ 0xffffffff
unfolding register_result
a_high_product_of_a_negative_and_an_unsigned_word = refl

-- mulhu ffffffff ffffffff fffffffe
pub a_high_product_of_unsigned_words : register_result register.MultiplyHighUnsigned 0xffffffff 0xffffffff ≡ 0xfffffffe
unfolding register_result
a_high_product_of_unsigned_words = refl

-- div fffffff9 00000002 fffffffd
pub a_quotient_is_rounded_toward_zero : register_result register.Divide 0xfffffff9 0x00000002 ≡ 0xfffffffd
unfolding register_result
a_quotient_is_rounded_toward_zero = refl

-- div 80000000 ffffffff 80000000
pub a_quotient_that_does_not_fit : register_result register.Divide 0x80000000 0xffffffff ≡ 0x80000000
unfolding register_result
a_quotient_that_does_not_fit = refl

-- divu fffffff9 00000002 7ffffffc
pub a_quotient_of_unsigned_words : register_result register.DivideUnsigned 0xfffffff9 0x00000002 ≡ 0x7ffffffc
unfolding register_result
a_quotient_of_unsigned_words = refl

-- rem fffffff9 00000002 ffffffff
pub a_remainder_has_the_sign_of_the_first : register_result register.Remainder 0xfffffff9 0x00000002 ≡ 0xffffffff
unfolding register_result
a_remainder_has_the_sign_of_the_first = refl

-- rem 80000000 ffffffff 00000000
pub a_remainder_where_the_quotient_does_not_fit : register_result register.Remainder 0x80000000 0xffffffff ≡ 0x00000000
unfolding register_result
a_remainder_where_the_quotient_does_not_fit = refl

-- remu fffffff9 00000002 00000001
pub a_remainder_of_unsigned_words : register_result register.RemainderUnsigned 0xfffffff9 0x00000002 ≡ 0x00000001
unfolding register_result
a_remainder_of_unsigned_words = refl

-- div 7fffffff 00000000 ffffffff
pub a_quotient_by_zero : register_result register.Divide 0x7fffffff 0x00000000 ≡ 0xffffffff
unfolding register_result
a_quotient_by_zero = refl

-- divu 7fffffff 00000000 ffffffff
pub a_quotient_of_an_unsigned_word_by_zero : register_result register.DivideUnsigned 0x7fffffff 0x00000000 ≡ 0xffffffff
unfolding register_result
a_quotient_of_an_unsigned_word_by_zero = refl

-- rem 7fffffff 00000000 7fffffff
pub a_remainder_by_zero : register_result register.Remainder 0x7fffffff 0x00000000 ≡ 0x7fffffff
unfolding register_result
a_remainder_by_zero = refl

-- remu 7fffffff 00000000 7fffffff
pub a_remainder_of_an_unsigned_word_by_zero : register_result register.RemainderUnsigned 0x7fffffff 0x00000000 ≡ 0x7fffffff
unfolding register_result
a_remainder_of_an_unsigned_word_by_zero = refl

-- addi 00000001 ffffffff 00000000
pub addi_of_a_negative_immediate : immediate_result immediate.Add 0x00000001 0xffffffff ≡ 0x00000000
unfolding immediate_result
addi_of_a_negative_immediate = refl

-- slti 00000001 fffff800 00000000
pub slti_of_a_negative_immediate : immediate_result immediate.Less 0x00000001 0xfffff800 ≡ 0x00000000
unfolding immediate_result
slti_of_a_negative_immediate = refl

-- slti 80000000 000003c7 00000001
pub slti_of_the_least_word : immediate_result immediate.Less 0x80000000 0x000003c7 ≡ 0x00000001
unfolding immediate_result
slti_of_the_least_word = refl

-- sltiu 7fffffff fffff800 00000001
pub sltiu_reads_the_extended_immediate_unsigned :
    immediate_result immediate.LessUnsigned 0x7fffffff 0xfffff800 ≡ 0x00000001
unfolding immediate_result
sltiu_reads_the_extended_immediate_unsigned = refl

-- sltiu ffffffff 000007ff 00000000
pub sltiu_of_a_small_immediate : immediate_result immediate.LessUnsigned 0xffffffff 0x000007ff ≡ 0x00000000
unfolding immediate_result
sltiu_of_a_small_immediate = refl

-- xori 00000001 ffffffff fffffffe
pub xori_of_ones_inverts : immediate_result immediate.Xor 0x00000001 0xffffffff ≡ 0xfffffffe
unfolding immediate_result
xori_of_ones_inverts = refl

-- ori 00000001 fffff800 fffff801
pub ori_of_a_negative_immediate : immediate_result immediate.Or 0x00000001 0xfffff800 ≡ 0xfffff801
unfolding immediate_result
ori_of_a_negative_immediate = refl

-- andi 7fffffff fffff800 7ffff800
pub andi_of_a_negative_immediate : immediate_result immediate.And 0x7fffffff 0xfffff800 ≡ 0x7ffff800
unfolding immediate_result
andi_of_a_negative_immediate = refl

-- slli 80000000 0000001f 00000000
pub slli_by_31 : shift_result shift.LeftLogical 0x80000000 31 ≡ 0x00000000
unfolding shift_result
slli_by_31 = refl

-- slli 00000001 0000000f 00008000
pub slli_by_15 : shift_result shift.LeftLogical 0x00000001 15 ≡ 0x00008000
unfolding shift_result
slli_by_15 = refl

-- srli 80000000 0000001f 00000001
pub srli_by_31 : shift_result shift.RightLogical 0x80000000 31 ≡ 0x00000001
unfolding shift_result
srli_by_31 = refl

-- srai 80000000 0000001f ffffffff
pub srai_by_31 : shift_result shift.RightArithmetic 0x80000000 31 ≡ 0xffffffff
unfolding shift_result
srai_by_31 = refl

-- srai 78eab699 0000001a 0000001e
pub srai_of_a_positive_word : shift_result shift.RightArithmetic 0x78eab699 26 ≡ 0x0000001e
unfolding shift_result
srai_of_a_positive_word = refl

-- beq 12345678 12345678 00000001
pub beq_of_equal_words : branch_taken test.Equal 0x12345678 0x12345678 ≡ true
unfolding branch_taken
beq_of_equal_words = refl

-- beq 7fffffff 80000000 00000000
pub beq_of_other_words : branch_taken test.Equal 0x7fffffff 0x80000000 ≡ false
unfolding branch_taken
beq_of_other_words = refl

-- bne 12345678 12345678 00000000
pub bne_of_equal_words : branch_taken test.NotEqual 0x12345678 0x12345678 ≡ false
unfolding branch_taken
bne_of_equal_words = refl

-- bne 7fffffff 80000000 00000001
pub bne_of_other_words : branch_taken test.NotEqual 0x7fffffff 0x80000000 ≡ true
unfolding branch_taken
bne_of_other_words = refl

-- blt 7fffffff 80000000 00000000
pub blt_reads_the_sign : branch_taken test.Less 0x7fffffff 0x80000000 ≡ false
unfolding branch_taken
blt_reads_the_sign = refl

-- blt fffffd7c 000025a8 00000001
pub blt_of_a_negative_word : branch_taken test.Less 0xfffffd7c 0x000025a8 ≡ true
unfolding branch_taken
blt_of_a_negative_word = refl

-- bge 7fffffff 80000000 00000001
pub bge_reads_the_sign : branch_taken test.GreaterOrEqual 0x7fffffff 0x80000000 ≡ true
unfolding branch_taken
bge_reads_the_sign = refl

-- bge 12345678 12345678 00000001
pub bge_of_equal_words : branch_taken test.GreaterOrEqual 0x12345678 0x12345678 ≡ true
unfolding branch_taken
bge_of_equal_words = refl

-- bge ffff8000 00006ca9 00000000
pub bge_of_a_negative_word : branch_taken test.GreaterOrEqual 0xffff8000 0x00006ca9 ≡ false
unfolding branch_taken
bge_of_a_negative_word = refl

-- bltu 7fffffff 80000000 00000001
pub bltu_reads_no_sign : branch_taken test.LessUnsigned 0x7fffffff 0x80000000 ≡ true
unfolding branch_taken
bltu_reads_no_sign = refl

-- bltu 12345678 12345678 00000000
pub bltu_of_equal_words : branch_taken test.LessUnsigned 0x12345678 0x12345678 ≡ false
unfolding branch_taken
bltu_of_equal_words = refl

-- bgeu 7fffffff 80000000 00000000
pub bgeu_reads_no_sign : branch_taken test.GreaterOrEqualUnsigned 0x7fffffff 0x80000000 ≡ false
unfolding branch_taken
bgeu_reads_no_sign = refl

-- bgeu 12345678 12345678 00000001
pub bgeu_of_equal_words : branch_taken test.GreaterOrEqualUnsigned 0x12345678 0x12345678 ≡ true
unfolding branch_taken
bgeu_of_equal_words = refl
