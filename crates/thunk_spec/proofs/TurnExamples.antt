-- Worked examples of turns, each computed by the checker. The values follow from the ISA's text.
use Rattle.std.proofs.Common.{◌≡◌, [], ◌∷◌, refl}
use Rattle.isa_spec.specs.declared.Cause.TheVariants.{InstructionMisaligned, InstructionAccess, IllegalInstruction, LoadMisaligned, LoadAccess, StoreMisaligned, StoreAccess}
use Rattle.isa_spec.specs.Fields.{i_immediate, s_immediate, b_immediate, j_immediate}
use Rattle.isa_spec.specs.Registers.{with_register, with_pc}
use Rattle.isa_spec.specs.Operations.{branch_taken, immediate_result}
use Rattle.isa_spec.specs.Table.{decoded, reading_of}
use Rattle.memory_spec.specs.Pages.{permission_at}
use Rattle.memory_spec.specs.Access.{number_in, number_at, loaded, fetched, may_store, bytes_stored}
use Rattle.thunk_spec.specs.declared.ends.Outcome.TheVariants.{Trap}
use Rattle.thunk_spec.specs.Turn.{turn, passed, stopped}
use Rattle.thunk_spec.proofs.Guests.{map, start, one}

-- addi x0,x0,5: a write to x0 is dropped, and the fetch took a byte from the code's page
pub turn-x0 : turn map (one 0x13 0x00 0x50 0x00) (start 0 0) ≡ passed (with_pc (start 0 0) 0x10004) (0x10000 ∷ []) []
unfolding turn fetched number_at number_in permission_at decoded reading_of i_immediate s_immediate b_immediate
    j_immediate immediate_result with_register
turn-x0 = refl

-- jalr ra,1(t0): rd has the next address, and the lowest bit of the target is cleared
pub turn-jalr :
    turn map (one 0xE7 0x80 0x12 0x00) (start 0x10020 0)
    ≡ passed (with_pc (with_register (start 0x10020 0) 1 0x10004) 0x10020) (0x10000 ∷ []) []
unfolding turn fetched number_at number_in permission_at decoded reading_of i_immediate s_immediate b_immediate
    j_immediate with_register
turn-jalr = refl

-- jal ra,6: a target that isn't a multiple of 4 traps on the jump, and rd isn't written
pub turn-jal_misaligned :
    turn map (one 0xEF 0x00 0x60 0x00) (start 0 0)
    ≡ record { outcome = Trap InstructionMisaligned; regs = start 0 0; taken = 0x10000 ∷ []; stores = [] }
unfolding turn fetched number_at number_in permission_at decoded reading_of i_immediate s_immediate b_immediate
    j_immediate with_register
turn-jal_misaligned = refl

-- beq x0,x0,6 is taken and traps; with bne in its place nothing would be jumped to
pub turn-beq_misaligned :
    (turn map (one 0x63 0x03 0x00 0x00) (start 0 0)).outcome ≡ Trap InstructionMisaligned
unfolding turn fetched number_at number_in permission_at decoded reading_of i_immediate s_immediate b_immediate
    j_immediate branch_taken
turn-beq_misaligned = refl

pub turn-bne_not_taken :
    turn map (one 0x63 0x13 0x00 0x00) (start 0 0) ≡ passed (with_pc (start 0 0) 0x10004) (0x10000 ∷ []) []
unfolding turn fetched number_at number_in permission_at decoded reading_of i_immediate s_immediate b_immediate
    j_immediate branch_taken
turn-bne_not_taken = refl

-- lb a0,0(t0) and lbu a0,0(t0) at the byte 0x80: the first copies the sign upwards; both pages are taken
pub turn-lb :
    turn map (one 0x03 0x85 0x02 0x00) (start 0x11000 0)
    ≡ passed (with_pc (with_register (start 0x11000 0) 10 0xFFFFFF80) 0x10004) (0x10000 ∷ 0x11000 ∷ []) []
unfolding turn fetched number_at number_in permission_at decoded reading_of i_immediate s_immediate b_immediate
    j_immediate loaded with_register
turn-lb = refl

pub turn-lbu :
    turn map (one 0x03 0xC5 0x02 0x00) (start 0x11000 0)
    ≡ passed (with_pc (with_register (start 0x11000 0) 10 0x80) 0x10004) (0x10000 ∷ 0x11000 ∷ []) []
unfolding turn fetched number_at number_in permission_at decoded reading_of i_immediate s_immediate b_immediate
    j_immediate loaded with_register
turn-lbu = refl

-- lw x0,0(t0): a load to x0 still makes its access
pub turn-load_x0 :
    turn map (one 0x03 0xA0 0x02 0x00) (start 0x11000 0)
    ≡ passed (with_pc (start 0x11000 0) 0x10004) (0x10000 ∷ 0x11000 ∷ []) []
unfolding turn fetched number_at number_in permission_at decoded reading_of i_immediate s_immediate b_immediate
    j_immediate loaded with_register
turn-load_x0 = refl

pub turn-load_x0_unmapped :
    (turn map (one 0x03 0xA0 0x02 0x00) (start 0x12000 0)).outcome ≡ Trap LoadAccess
unfolding turn fetched number_at number_in permission_at decoded reading_of i_immediate s_immediate b_immediate
    j_immediate loaded with_register
turn-load_x0_unmapped = refl

-- lw a0,0(t0) at an odd address: alignment is looked at before the access, and only the fetch took a byte
pub turn-load_misaligned :
    turn map (one 0x03 0xA5 0x02 0x00) (start 0x12001 0)
    ≡ record { outcome = Trap LoadMisaligned; regs = start 0x12001 0; taken = 0x10000 ∷ []; stores = [] }
unfolding turn fetched number_at number_in permission_at decoded reading_of i_immediate s_immediate b_immediate
    j_immediate loaded with_register
turn-load_misaligned = refl

-- sw t1,0(t0): four bytes are stored, least first, and a page that is only stored to isn't taken
pub turn-sw :
    turn map (one 0x23 0xA0 0x62 0x00) (start 0x11004 0x01020304)
    ≡ passed (with_pc (start 0x11004 0x01020304) 0x10004) (0x10000 ∷ [])
    (record { address = 0x11004; byte = 4 } ∷ record { address = 0x11005; byte = 3 }
    ∷ record { address = 0x11006; byte = 2 }
    ∷ record { address = 0x11007; byte = 1 } ∷ [])
unfolding turn fetched number_at number_in permission_at decoded reading_of i_immediate s_immediate b_immediate
    j_immediate may_store bytes_stored
turn-sw = refl

-- sw t1,2(t0), and sw t1,0(t0) at an address without a page
pub turn-store_misaligned :
    (turn map (one 0x23 0xA1 0x62 0x00) (start 0x11000 0)).outcome ≡ Trap StoreMisaligned
unfolding turn fetched number_at number_in permission_at decoded reading_of i_immediate s_immediate b_immediate
    j_immediate may_store bytes_stored
turn-store_misaligned = refl

pub turn-store_unmapped :
    (turn map (one 0x23 0xA0 0x62 0x00) (start 0x12000 0)).outcome ≡ Trap StoreAccess
unfolding turn fetched number_at number_in permission_at decoded reading_of i_immediate s_immediate b_immediate
    j_immediate may_store bytes_stored
turn-store_unmapped = refl

-- a word that no row has: its own page was taken
pub turn-illegal :
    turn map (one 0xFF 0xFF 0xFF 0xFF) (start 0 0)
    ≡ record { outcome = Trap IllegalInstruction; regs = start 0 0; taken = 0x10000 ∷ []; stores = [] }
unfolding turn fetched number_at number_in permission_at decoded reading_of i_immediate s_immediate b_immediate
    j_immediate
turn-illegal = refl

-- a fetch from a page without X, and one at a pc that isn't a multiple of 4: neither takes a byte
pub turn-no_execute :
    turn map (one 0 0 0 0) (with_pc (start 0 0) 0x11000)
    ≡ stopped (Trap InstructionAccess) (with_pc (start 0 0) 0x11000)
unfolding turn fetched number_at number_in permission_at
turn-no_execute = refl

pub turn-pc_misaligned :
    turn map (one 0 0 0 0) (with_pc (start 0 0) 0x11002)
    ≡ stopped (Trap InstructionMisaligned) (with_pc (start 0 0) 0x11002)
unfolding turn
turn-pc_misaligned = refl
