-- Worked examples of one instruction each, computed by the checker. The values follow from the ISA's text.
use Rattle.std.proofs.Common.{◌≡◌, [], ◌∷◌, refl}
use Rattle.isa_spec.specs.declared.Cause.TheVariants.{Breakpoint, LoadMisaligned, StoreMisaligned}
use Rattle.isa_spec.specs.Fields.{i_immediate, s_immediate, b_immediate, u_immediate, j_immediate}
use Rattle.isa_spec.specs.Registers.{with_register, with_pc}
use Rattle.isa_spec.specs.Operations.{branch_taken, immediate_result, shift_result, register_result}
use Rattle.isa_spec.specs.Table.{decoded, reading_of}
use Rattle.memory_spec.specs.Pages.{permission_at}
use Rattle.memory_spec.specs.Access.{number_in, number_at, loaded, fetched, may_store, bytes_stored}
use Rattle.thunk_spec.specs.declared.ends.Outcome.TheVariants.{Call, Trap}
use Rattle.thunk_spec.specs.Turn.{turn, passed}
use Rattle.thunk_spec.proofs.Guests.{map, start, one}

-- auipc a0,0x12345 adds to the address of the instruction itself
pub turn-auipc :
    turn map (one 0x17 0x55 0x34 0x12) (start 0 0)
    ≡ passed (with_pc (with_register (start 0 0) 10 0x12355000) 0x10004) (0x10000 ∷ []) []
unfolding turn fetched number_at number_in permission_at decoded reading_of u_immediate i_immediate s_immediate
    b_immediate j_immediate branch_taken immediate_result shift_result register_result loaded may_store bytes_stored
    with_register
turn-auipc = refl

-- jal ra,8: the target is counted from the jump, and ra has the address after it
pub turn-jal :
    turn map (one 0xEF 0x00 0x80 0x00) (start 0 0)
    ≡ passed (with_pc (with_register (start 0 0) 1 0x10004) 0x10008) (0x10000 ∷ []) []
unfolding turn fetched number_at number_in permission_at decoded reading_of u_immediate i_immediate s_immediate
    b_immediate j_immediate branch_taken immediate_result shift_result register_result loaded may_store bytes_stored
    with_register
turn-jal = refl

-- jalr t0,0(t0): t0 is read before it is written
pub turn-jalr_itself :
    turn map (one 0xE7 0x82 0x02 0x00) (start 0x20000 0)
    ≡ passed (with_pc (with_register (start 0x20000 0) 5 0x10004) 0x20000) (0x10000 ∷ []) []
unfolding turn fetched number_at number_in permission_at decoded reading_of u_immediate i_immediate s_immediate
    b_immediate j_immediate branch_taken immediate_result shift_result register_result loaded may_store bytes_stored
    with_register
turn-jalr_itself = refl

-- blt t0,t1,-8 with t0 = -1 and t1 = 1: taken, and counted from the branch
pub turn-blt_back :
    turn map (one 0xE3 0xCC 0x62 0xFE) (start 0xFFFFFFFF 1)
    ≡ passed (with_pc (start 0xFFFFFFFF 1) 0xFFF8) (0x10000 ∷ []) []
unfolding turn fetched number_at number_in permission_at decoded reading_of u_immediate i_immediate s_immediate
    b_immediate j_immediate branch_taken immediate_result shift_result register_result loaded may_store bytes_stored
    with_register
turn-blt_back = refl

-- the same with t0 = 1 and t1 = -1: not taken
pub turn-blt_on :
    turn map (one 0xE3 0xCC 0x62 0xFE) (start 1 0xFFFFFFFF)
    ≡ passed (with_pc (start 1 0xFFFFFFFF) 0x10004) (0x10000 ∷ []) []
unfolding turn fetched number_at number_in permission_at decoded reading_of u_immediate i_immediate s_immediate
    b_immediate j_immediate branch_taken immediate_result shift_result register_result loaded may_store bytes_stored
    with_register
turn-blt_on = refl

-- sub a0,t0,t1 with 5 and 3: rs1 less rs2
pub turn-sub :
    turn map (one 0x33 0x85 0x62 0x40) (start 5 3)
    ≡ passed (with_pc (with_register (start 5 3) 10 2) 0x10004) (0x10000 ∷ []) []
unfolding turn fetched number_at number_in permission_at decoded reading_of u_immediate i_immediate s_immediate
    b_immediate j_immediate branch_taken immediate_result shift_result register_result loaded may_store bytes_stored
    with_register
turn-sub = refl

-- slti a0,t0,-1 with -2: the register is compared with the immediate
pub turn-slti :
    turn map (one 0x13 0xA5 0xF2 0xFF) (start 0xFFFFFFFE 0)
    ≡ passed (with_pc (with_register (start 0xFFFFFFFE 0) 10 1) 0x10004) (0x10000 ∷ []) []
unfolding turn fetched number_at number_in permission_at decoded reading_of u_immediate i_immediate s_immediate
    b_immediate j_immediate branch_taken immediate_result shift_result register_result loaded may_store bytes_stored
    with_register
turn-slti = refl

-- srai a0,t0,4 copies the sign
pub turn-srai :
    turn map (one 0x13 0xD5 0x42 0x40) (start 0x80000000 0)
    ≡ passed (with_pc (with_register (start 0x80000000 0) 10 0xF8000000) 0x10004) (0x10000 ∷ []) []
unfolding turn fetched number_at number_in permission_at decoded reading_of u_immediate i_immediate s_immediate
    b_immediate j_immediate branch_taken immediate_result shift_result register_result loaded may_store bytes_stored
    with_register
turn-srai = refl

-- fence does nothing
pub turn-fence : turn map (one 0x0F 0x00 0xF0 0x0F) (start 1 2) ≡ passed (with_pc (start 1 2) 0x10004) (0x10000 ∷ []) []
unfolding turn fetched number_at number_in permission_at decoded reading_of u_immediate i_immediate s_immediate
    b_immediate j_immediate branch_taken immediate_result shift_result register_result loaded may_store bytes_stored
    with_register
turn-fence = refl

-- ebreak traps with its own cause
pub turn-ebreak :
    turn map (one 0x73 0x00 0x10 0x00) (start 1 2)
    ≡ record { outcome = Trap Breakpoint; regs = start 1 2; taken = 0x10000 ∷ []; stores = [] }
unfolding turn fetched number_at number_in permission_at decoded reading_of u_immediate i_immediate s_immediate
    b_immediate j_immediate branch_taken immediate_result shift_result register_result loaded may_store bytes_stored
    with_register
turn-ebreak = refl

-- ecall requests a call; registers and pc stay
pub turn-ecall :
    turn map (one 0x73 0x00 0x00 0x00) (start 1 2)
    ≡ record { outcome = Call; regs = start 1 2; taken = 0x10000 ∷ []; stores = [] }
unfolding turn fetched number_at number_in permission_at decoded reading_of u_immediate i_immediate s_immediate
    b_immediate j_immediate branch_taken immediate_result shift_result register_result loaded may_store bytes_stored
    with_register
turn-ecall = refl

-- lh a0,0(t0) at 80 ff: the sign is copied upwards
pub turn-lh :
    turn map (one 0x03 0x95 0x02 0x00) (start 0x11000 0)
    ≡ passed (with_pc (with_register (start 0x11000 0) 10 0xFFFFFF80) 0x10004) (0x10000 ∷ 0x11000 ∷ []) []
unfolding turn fetched number_at number_in permission_at decoded reading_of u_immediate i_immediate s_immediate
    b_immediate j_immediate branch_taken immediate_result shift_result register_result loaded may_store bytes_stored
    with_register
turn-lh = refl

-- lh a0,2(t0): an even address suffices
pub turn-lh_aligned :
    turn map (one 0x03 0x95 0x22 0x00) (start 0x11000 0)
    ≡ passed (with_pc (with_register (start 0x11000 0) 10 0x17F) 0x10004) (0x10000 ∷ 0x11002 ∷ []) []
unfolding turn fetched number_at number_in permission_at decoded reading_of u_immediate i_immediate s_immediate
    b_immediate j_immediate branch_taken immediate_result shift_result register_result loaded may_store bytes_stored
    with_register
turn-lh_aligned = refl

-- lhu a0,0(t0) at 80 ff: zeros above
pub turn-lhu :
    turn map (one 0x03 0xD5 0x02 0x00) (start 0x11000 0)
    ≡ passed (with_pc (with_register (start 0x11000 0) 10 0xFF80) 0x10004) (0x10000 ∷ 0x11000 ∷ []) []
unfolding turn fetched number_at number_in permission_at decoded reading_of u_immediate i_immediate s_immediate
    b_immediate j_immediate branch_taken immediate_result shift_result register_result loaded may_store bytes_stored
    with_register
turn-lhu = refl

-- lw a0,0(t0) at 80 ff 7f 01
pub turn-lw :
    turn map (one 0x03 0xA5 0x02 0x00) (start 0x11000 0)
    ≡ passed (with_pc (with_register (start 0x11000 0) 10 0x17FFF80) 0x10004) (0x10000 ∷ 0x11000 ∷ []) []
unfolding turn fetched number_at number_in permission_at decoded reading_of u_immediate i_immediate s_immediate
    b_immediate j_immediate branch_taken immediate_result shift_result register_result loaded may_store bytes_stored
    with_register
turn-lw = refl

-- lh a0,0(t0) at an odd address
pub turn-lh_misaligned :
    turn map (one 0x03 0x95 0x02 0x00) (start 0x11001 0)
    ≡ record { outcome = Trap LoadMisaligned; regs = start 0x11001 0; taken = 0x10000 ∷ []; stores = [] }
unfolding turn fetched number_at number_in permission_at decoded reading_of u_immediate i_immediate s_immediate
    b_immediate j_immediate branch_taken immediate_result shift_result register_result loaded may_store bytes_stored
    with_register
turn-lh_misaligned = refl

-- sh t1,2(t0): two bytes, at an even address
pub turn-sh :
    turn map (one 0x23 0x91 0x62 0x00) (start 0x11000 0x01020304)
    ≡ passed (with_pc (start 0x11000 0x01020304) 0x10004) (0x10000 ∷ [])
    (record { address = 0x11002; byte = 4 } ∷ record { address = 0x11003; byte = 3 } ∷ [])
unfolding turn fetched number_at number_in permission_at decoded reading_of u_immediate i_immediate s_immediate
    b_immediate j_immediate branch_taken immediate_result shift_result register_result loaded may_store bytes_stored
    with_register
turn-sh = refl

-- sb t1,1(t0): one byte, at any address
pub turn-sb :
    turn map (one 0xA3 0x80 0x62 0x00) (start 0x11000 0x01020304)
    ≡ passed (with_pc (start 0x11000 0x01020304) 0x10004) (0x10000 ∷ [])
    (record { address = 0x11001; byte = 4 } ∷ [])
unfolding turn fetched number_at number_in permission_at decoded reading_of u_immediate i_immediate s_immediate
    b_immediate j_immediate branch_taken immediate_result shift_result register_result loaded may_store bytes_stored
    with_register
turn-sb = refl

-- sh t1,2(t0) with an odd t0
pub turn-sh_misaligned :
    turn map (one 0x23 0x91 0x62 0x00) (start 0x11001 0)
    ≡ record { outcome = Trap StoreMisaligned; regs = start 0x11001 0; taken = 0x10000 ∷ []; stores = [] }
unfolding turn fetched number_at number_in permission_at decoded reading_of u_immediate i_immediate s_immediate
    b_immediate j_immediate branch_taken immediate_result shift_result register_result loaded may_store bytes_stored
    with_register
turn-sh_misaligned = refl
