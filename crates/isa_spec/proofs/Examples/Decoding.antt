-- Words and the instructions that they decode to, computed from the table.
--
-- The expected values are not this project's: which words are illegal comes from QEMU with all
-- extensions off, and the operands are LLVM's.
use Rattle.std.proofs.Common.{◌≡◌, Some, None, refl}
use Rattle.isa_spec.specs.declared.Instr.TheVariants as instr
use Rattle.isa_spec.specs.declared.BranchTest.TheVariants as test
use Rattle.isa_spec.specs.declared.Load.TheVariants as load
use Rattle.isa_spec.specs.declared.Store.TheVariants as store
use Rattle.isa_spec.specs.declared.ImmediateOperation.TheVariants as immediate
use Rattle.isa_spec.specs.declared.ShiftOperation.TheVariants as shift
use Rattle.isa_spec.specs.declared.RegisterOperation.TheVariants as register
use Rattle.isa_spec.specs.Fields.{i_immediate, s_immediate, b_immediate, u_immediate, j_immediate}
use Rattle.isa_spec.specs.Table.{decoded, reading_of}

-- 00010537: lui rd=10 imm=00010000
pub decodes_lui : decoded 0x00010537 ≡ Some (instr.Lui 10 0x00010000)
unfolding decoded reading_of u_immediate
decodes_lui = refl

-- 00030463: beq rs1=6 rs2=0 imm=00000008
pub decodes_a_branch_forward : decoded 0x00030463 ≡ Some (instr.Branch test.Equal 6 0 0x00000008)
unfolding decoded reading_of b_immediate
decodes_a_branch_forward = refl

-- 0062a023: sw rs1=5 rs2=6 imm=00000000
pub decodes_a_store_of_a_word : decoded 0x0062a023 ≡ Some (instr.Store store.Word 5 6 0x00000000)
unfolding decoded reading_of s_immediate
decodes_a_store_of_a_word = refl

-- 0002a303: lw rd=6 rs1=5 imm=00000000
pub decodes_a_load_of_a_word : decoded 0x0002a303 ≡ Some (instr.Load load.Word 6 5 0x00000000)
unfolding decoded reading_of i_immediate
decodes_a_load_of_a_word = refl

-- ffdff06f: jal rd=0 imm=fffffffc
pub decodes_a_jump_back : decoded 0xffdff06f ≡ Some (instr.Jal 0 0xfffffffc)
unfolding decoded reading_of j_immediate
decodes_a_jump_back = refl

-- 41f2d293: srai rd=5 rs1=5 shamt=31
pub decodes_an_arithmetic_shift : decoded 0x41f2d293 ≡ Some (instr.Shift shift.RightArithmetic 5 5 31)
unfolding decoded reading_of
decodes_an_arithmetic_shift = refl

-- 00000000: none
pub zeros_are_illegal : decoded 0x00000000 ≡ None
unfolding decoded reading_of
zeros_are_illegal = refl

-- ffffffff: none
pub ones_are_illegal : decoded 0xffffffff ≡ None
unfolding decoded reading_of
ones_are_illegal = refl

-- 02029293: none
pub a_shift_with_bit_25_is_illegal : decoded 0x02029293 ≡ None
unfolding decoded reading_of
a_shift_with_bit_25_is_illegal = refl

-- 0000100f: none
pub fence_i_is_illegal : decoded 0x0000100f ≡ None
unfolding decoded reading_of
fence_i_is_illegal = refl

-- 8d82a837: lui rd=16 imm=8d82a000
pub decodes_lui_with_bit_31 : decoded 0x8d82a837 ≡ Some (instr.Lui 16 0x8d82a000)
unfolding decoded reading_of u_immediate
decodes_lui_with_bit_31 = refl

-- aaaaa797: auipc rd=15 imm=aaaaa000
pub decodes_auipc : decoded 0xaaaaa797 ≡ Some (instr.Auipc 15 0xaaaaa000)
unfolding decoded reading_of u_immediate
decodes_auipc = refl

-- 7ffff0ef: jal rd=1 imm=000ffffe
pub decodes_jal_with_bit_11 : decoded 0x7ffff0ef ≡ Some (instr.Jal 1 0x000ffffe)
unfolding decoded reading_of j_immediate
decodes_jal_with_bit_11 = refl

-- b70e646f: jal rd=8 imm=fffe6370
pub decodes_jal_without_bit_11 : decoded 0xb70e646f ≡ Some (instr.Jal 8 0xfffe6370)
unfolding decoded reading_of j_immediate
decodes_jal_without_bit_11 = refl

-- fff780e7: jalr rd=1 rs1=15 imm=ffffffff
pub decodes_jalr_back : decoded 0xfff780e7 ≡ Some (instr.Jalr 1 15 0xffffffff)
unfolding decoded reading_of i_immediate
decodes_jalr_back = refl

-- 7e110fe3: beq rs1=2 rs2=1 imm=00000ffe
pub decodes_beq : decoded 0x7e110fe3 ≡ Some (instr.Branch test.Equal 2 1 0x00000ffe)
unfolding decoded reading_of b_immediate
decodes_beq = refl

-- feff9f63: bne rs1=31 rs2=15 imm=fffff7fe
pub decodes_bne : decoded 0xfeff9f63 ≡ Some (instr.Branch test.NotEqual 31 15 0xfffff7fe)
unfolding decoded reading_of b_immediate
decodes_bne = refl

-- 7ff84f63: blt rs1=16 rs2=31 imm=000007fe
pub decodes_blt : decoded 0x7ff84f63 ≡ Some (instr.Branch test.Less 16 31 0x000007fe)
unfolding decoded reading_of b_immediate
decodes_blt = refl

-- fff7dee3: bge rs1=15 rs2=31 imm=fffffffc
pub decodes_bge : decoded 0xfff7dee3 ≡ Some (instr.Branch test.GreaterOrEqual 15 31 0xfffffffc)
unfolding decoded reading_of b_immediate
decodes_bge = refl

-- 7f386fe3: bltu rs1=16 rs2=19 imm=00000ffe
pub decodes_bltu : decoded 0x7f386fe3 ≡ Some (instr.Branch test.LessUnsigned 16 19 0x00000ffe)
unfolding decoded reading_of b_immediate
decodes_bltu = refl

-- 9ff17663: bgeu rs1=2 rs2=31 imm=fffff1ec
pub decodes_bgeu : decoded 0x9ff17663 ≡ Some (instr.Branch test.GreaterOrEqualUnsigned 2 31 0xfffff1ec)
unfolding decoded reading_of b_immediate
decodes_bgeu = refl

-- fff58783: lb rd=15 rs1=11 imm=ffffffff
pub decodes_lb : decoded 0xfff58783 ≡ Some (instr.Load load.Byte 15 11 0xffffffff)
unfolding decoded reading_of i_immediate
decodes_lb = refl

-- 7ff81e83: lh rd=29 rs1=16 imm=000007ff
pub decodes_lh : decoded 0x7ff81e83 ≡ Some (instr.Load load.Half 29 16 0x000007ff)
unfolding decoded reading_of i_immediate
decodes_lh = refl

-- 8007af83: lw rd=31 rs1=15 imm=fffff800
pub decodes_lw : decoded 0x8007af83 ≡ Some (instr.Load load.Word 31 15 0xfffff800)
unfolding decoded reading_of i_immediate
decodes_lw = refl

-- 001fc803: lbu rd=16 rs1=31 imm=00000001
pub decodes_lbu : decoded 0x001fc803 ≡ Some (instr.Load load.ByteUnsigned 16 31 0x00000001)
unfolding decoded reading_of i_immediate
decodes_lbu = refl

-- fff1d083: lhu rd=1 rs1=3 imm=ffffffff
pub decodes_lhu : decoded 0xfff1d083 ≡ Some (instr.Load load.HalfUnsigned 1 3 0xffffffff)
unfolding decoded reading_of i_immediate
decodes_lhu = refl

-- ab338523: sb rs1=7 rs2=19 imm=fffffaaa
pub decodes_sb : decoded 0xab338523 ≡ Some (instr.Store store.Byte 7 19 0xfffffaaa)
unfolding decoded reading_of s_immediate
decodes_sb = refl

-- 7ef81fa3: sh rs1=16 rs2=15 imm=000007ff
pub decodes_sh : decoded 0x7ef81fa3 ≡ Some (instr.Store store.Half 16 15 0x000007ff)
unfolding decoded reading_of s_immediate
decodes_sh = refl

-- a698aa23: sw rs1=17 rs2=9 imm=fffffa74
pub decodes_sw : decoded 0xa698aa23 ≡ Some (instr.Store store.Word 17 9 0xfffffa74)
unfolding decoded reading_of s_immediate
decodes_sw = refl

-- 800f8b93: addi rd=23 rs1=31 imm=fffff800
pub decodes_addi : decoded 0x800f8b93 ≡ Some (instr.Immediate immediate.Add 23 31 0xfffff800)
unfolding decoded reading_of i_immediate
decodes_addi = refl

-- 00082393: slti rd=7 rs1=16 imm=00000000
pub decodes_slti : decoded 0x00082393 ≡ Some (instr.Immediate immediate.Less 7 16 0x00000000)
unfolding decoded reading_of i_immediate
decodes_slti = refl

-- fff7b813: sltiu rd=16 rs1=15 imm=ffffffff
pub decodes_sltiu : decoded 0xfff7b813 ≡ Some (instr.Immediate immediate.LessUnsigned 16 15 0xffffffff)
unfolding decoded reading_of i_immediate
decodes_sltiu = refl

-- 0007ce93: xori rd=29 rs1=15 imm=00000000
pub decodes_xori : decoded 0x0007ce93 ≡ Some (instr.Immediate immediate.Xor 29 15 0x00000000)
unfolding decoded reading_of i_immediate
decodes_xori = refl

-- fff86713: ori rd=14 rs1=16 imm=ffffffff
pub decodes_ori : decoded 0xfff86713 ≡ Some (instr.Immediate immediate.Or 14 16 0xffffffff)
unfolding decoded reading_of i_immediate
decodes_ori = refl

-- 0007f093: andi rd=1 rs1=15 imm=00000000
pub decodes_andi : decoded 0x0007f093 ≡ Some (instr.Immediate immediate.And 1 15 0x00000000)
unfolding decoded reading_of i_immediate
decodes_andi = refl

-- 00391093: slli rd=1 rs1=18 shamt=3
pub decodes_slli : decoded 0x00391093 ≡ Some (instr.Shift shift.LeftLogical 1 18 3)
unfolding decoded reading_of
decodes_slli = refl

-- 0020db13: srli rd=22 rs1=1 shamt=2
pub decodes_srli : decoded 0x0020db13 ≡ Some (instr.Shift shift.RightLogical 22 1 2)
unfolding decoded reading_of
decodes_srli = refl

-- 40115793: srai rd=15 rs1=2 shamt=1
pub decodes_srai : decoded 0x40115793 ≡ Some (instr.Shift shift.RightArithmetic 15 2 1)
unfolding decoded reading_of
decodes_srai = refl

-- 003100b3: add rd=1 rs1=2 rs2=3
pub decodes_add : decoded 0x003100b3 ≡ Some (instr.Register register.Add 1 2 3)
unfolding decoded reading_of
decodes_add = refl

-- 403100b3: sub rd=1 rs1=2 rs2=3
pub decodes_sub : decoded 0x403100b3 ≡ Some (instr.Register register.Subtract 1 2 3)
unfolding decoded reading_of
decodes_sub = refl

-- 003110b3: sll rd=1 rs1=2 rs2=3
pub decodes_sll : decoded 0x003110b3 ≡ Some (instr.Register register.ShiftLeftLogical 1 2 3)
unfolding decoded reading_of
decodes_sll = refl

-- 003120b3: slt rd=1 rs1=2 rs2=3
pub decodes_slt : decoded 0x003120b3 ≡ Some (instr.Register register.Less 1 2 3)
unfolding decoded reading_of
decodes_slt = refl

-- 003130b3: sltu rd=1 rs1=2 rs2=3
pub decodes_sltu : decoded 0x003130b3 ≡ Some (instr.Register register.LessUnsigned 1 2 3)
unfolding decoded reading_of
decodes_sltu = refl

-- 003140b3: xor rd=1 rs1=2 rs2=3
pub decodes_xor : decoded 0x003140b3 ≡ Some (instr.Register register.Xor 1 2 3)
unfolding decoded reading_of
decodes_xor = refl

-- 003150b3: srl rd=1 rs1=2 rs2=3
pub decodes_srl : decoded 0x003150b3 ≡ Some (instr.Register register.ShiftRightLogical 1 2 3)
unfolding decoded reading_of
decodes_srl = refl

-- 403150b3: sra rd=1 rs1=2 rs2=3
pub decodes_sra : decoded 0x403150b3 ≡ Some (instr.Register register.ShiftRightArithmetic 1 2 3)
unfolding decoded reading_of
decodes_sra = refl

-- 003160b3: or rd=1 rs1=2 rs2=3
pub decodes_or : decoded 0x003160b3 ≡ Some (instr.Register register.Or 1 2 3)
unfolding decoded reading_of
decodes_or = refl

-- 003170b3: and rd=1 rs1=2 rs2=3
pub decodes_and : decoded 0x003170b3 ≡ Some (instr.Register register.And 1 2 3)
unfolding decoded reading_of
decodes_and = refl

-- 023100b3: mul rd=1 rs1=2 rs2=3
pub decodes_mul : decoded 0x023100b3 ≡ Some (instr.Register register.Multiply 1 2 3)
unfolding decoded reading_of
decodes_mul = refl

-- 023110b3: mulh rd=1 rs1=2 rs2=3
pub decodes_mulh : decoded 0x023110b3 ≡ Some (instr.Register register.MultiplyHigh 1 2 3)
unfolding decoded reading_of
decodes_mulh = refl

-- 023120b3: mulhsu rd=1 rs1=2 rs2=3
pub decodes_mulhsu : decoded 0x023120b3 ≡ Some (instr.Register register.MultiplyHighSignedUnsigned 1 2 3)
unfolding decoded reading_of
decodes_mulhsu = refl

-- 023130b3: mulhu rd=1 rs1=2 rs2=3
pub decodes_mulhu : decoded 0x023130b3 ≡ Some (instr.Register register.MultiplyHighUnsigned 1 2 3)
unfolding decoded reading_of
decodes_mulhu = refl

-- 023140b3: div rd=1 rs1=2 rs2=3
pub decodes_div : decoded 0x023140b3 ≡ Some (instr.Register register.Divide 1 2 3)
unfolding decoded reading_of
decodes_div = refl

-- 023150b3: divu rd=1 rs1=2 rs2=3
pub decodes_divu : decoded 0x023150b3 ≡ Some (instr.Register register.DivideUnsigned 1 2 3)
unfolding decoded reading_of
decodes_divu = refl

-- 023160b3: rem rd=1 rs1=2 rs2=3
pub decodes_rem : decoded 0x023160b3 ≡ Some (instr.Register register.Remainder 1 2 3)
unfolding decoded reading_of
decodes_rem = refl

-- 023170b3: remu rd=1 rs1=2 rs2=3
pub decodes_remu : decoded 0x023170b3 ≡ Some (instr.Register register.RemainderUnsigned 1 2 3)
unfolding decoded reading_of
decodes_remu = refl

-- ffff8f8f: fence
pub decodes_fence_with_free_fields : decoded 0xffff8f8f ≡ Some instr.Fence
unfolding decoded reading_of
decodes_fence_with_free_fields = refl

-- 0ff0000f: fence
pub decodes_fence : decoded 0x0ff0000f ≡ Some instr.Fence
unfolding decoded reading_of
decodes_fence = refl

-- 00000073: ecall
pub decodes_ecall : decoded 0x00000073 ≡ Some instr.Ecall
unfolding decoded reading_of
decodes_ecall = refl

-- 00100073: ebreak
pub decodes_ebreak : decoded 0x00100073 ≡ Some instr.Ebreak
unfolding decoded reading_of
decodes_ebreak = refl

-- 000000f3: none
pub an_ecall_with_rd_is_illegal : decoded 0x000000f3 ≡ None
unfolding decoded reading_of
an_ecall_with_rd_is_illegal = refl

-- 00200073: none
pub another_system_word_is_illegal : decoded 0x00200073 ≡ None
unfolding decoded reading_of
another_system_word_is_illegal = refl

-- 666f10f3: none
pub a_csr_word_is_illegal : decoded 0x666f10f3 ≡ None
unfolding decoded reading_of
a_csr_word_is_illegal = refl

-- c0d09ae7: none
pub jalr_of_another_funct3_is_illegal : decoded 0xc0d09ae7 ≡ None
unfolding decoded reading_of
jalr_of_another_funct3_is_illegal = refl

-- 28cca163: none
pub a_branch_of_funct3_2_is_illegal : decoded 0x28cca163 ≡ None
unfolding decoded reading_of
a_branch_of_funct3_2_is_illegal = refl

-- 508e31e3: none
pub a_branch_of_funct3_3_is_illegal : decoded 0x508e31e3 ≡ None
unfolding decoded reading_of
a_branch_of_funct3_3_is_illegal = refl

-- e02cbf03: none
pub a_load_of_funct3_3_is_illegal : decoded 0xe02cbf03 ≡ None
unfolding decoded reading_of
a_load_of_funct3_3_is_illegal = refl

-- d0fb6b83: none
pub a_load_of_funct3_6_is_illegal : decoded 0xd0fb6b83 ≡ None
unfolding decoded reading_of
a_load_of_funct3_6_is_illegal = refl

-- 8fa47983: none
pub a_load_of_funct3_7_is_illegal : decoded 0x8fa47983 ≡ None
unfolding decoded reading_of
a_load_of_funct3_7_is_illegal = refl

-- 9797bea3: none
pub a_store_of_funct3_3_is_illegal : decoded 0x9797bea3 ≡ None
unfolding decoded reading_of
a_store_of_funct3_3_is_illegal = refl

-- 40729f13: none
pub a_left_shift_with_bit_30_is_illegal : decoded 0x40729f13 ≡ None
unfolding decoded reading_of
a_left_shift_with_bit_30_is_illegal = refl

-- 037b5413: none
pub a_right_shift_with_bit_25_is_illegal : decoded 0x037b5413 ≡ None
unfolding decoded reading_of
a_right_shift_with_bit_25_is_illegal = refl

-- 06f10fb3: none
pub a_product_with_another_bit_is_illegal : decoded 0x06f10fb3 ≡ None
unfolding decoded reading_of
a_product_with_another_bit_is_illegal = refl

-- 41f796b3: none
pub and_with_bit_30_is_illegal : decoded 0x41f796b3 ≡ None
unfolding decoded reading_of
and_with_bit_30_is_illegal = refl

-- 00000000: none
pub a_compressed_word_is_illegal : decoded 0x00000000 ≡ None
unfolding decoded reading_of
a_compressed_word_is_illegal = refl
