-- Small guests of the worked examples. Their pages are cut after the last byte that is looked at.
use Rattle.std.proofs.Common.{ℕ, List, [], ◌∷◌, replicate}
use Rattle.isa_spec.specs.Registers.{Registers}
use Rattle.memory_spec.specs.Pages.{Mapped, Memory}
use Rattle.thunk_spec.specs.Thunk.{Frame}

-- code at 0x10000, and a page at 0x11000 to read and write
abbrev pub map : List Mapped
map = record { number = 0x10; permission = 7 } ∷ record { number = 0x11; permission = 6 } ∷ []

abbrev pub frame_of : ℕ → Frame
frame_of fuel = record { map = map; fuel = fuel }

-- all registers 0, but the pc, t0 (x5) and t1 (x6)
abbrev pub start : ℕ → ℕ → Registers
start t0 t1 = record { pc = 0x10000; x = 0 ∷ 0 ∷ 0 ∷ 0 ∷ 0 ∷ t0 ∷ t1 ∷ replicate 25 0 }

-- a page of eight bytes, so that a store has a place to go to
abbrev pub scratch_page : List ℕ
scratch_page = 0x80 ∷ 0xFF ∷ 0x7F ∷ 0x01 ∷ 0 ∷ 0 ∷ 0 ∷ 0 ∷ []

-- one instruction at 0x10000, given by its four bytes
abbrev pub one : ℕ → ℕ → ℕ → ℕ → Memory
one a b c d = (a ∷ b ∷ c ∷ d ∷ []) ∷ scratch_page ∷ []

-- lui a0,0x10; addi a0,a0,0x20; addi a1,x0,3; addi a7,x0,1; ecall; addi a0,x0,0; addi a7,x0,0; ecall; "hi\n"
abbrev pub hi : Memory
hi =
    (0x37 ∷ 0x05 ∷ 0x01 ∷ 0x00 ∷ 0x13 ∷ 0x05 ∷ 0x05 ∷ 0x02 ∷ 0x93 ∷ 0x05 ∷ 0x30 ∷ 0x00 ∷ 0x93 ∷ 0x08 ∷ 0x10 ∷ 0x00
    ∷ 0x73 ∷ 0x00 ∷ 0x00 ∷ 0x00 ∷ 0x13 ∷ 0x05 ∷ 0x00 ∷ 0x00 ∷ 0x93 ∷ 0x08 ∷ 0x00 ∷ 0x00 ∷ 0x73 ∷ 0x00 ∷ 0x00 ∷ 0x00
    ∷ 0x68 ∷ 0x69 ∷ 0x0A ∷ [])
    ∷ scratch_page ∷ []

-- lui t0,0x10; lw t1,0x18(t0); sw t1,0x10(t0); addi a7,x0,0; addi a0,x0,1; ecall; and the word of addi a0,x0,9
abbrev pub self : Memory
self =
    (0xB7 ∷ 0x02 ∷ 0x01 ∷ 0x00 ∷ 0x03 ∷ 0xA3 ∷ 0x82 ∷ 0x01 ∷ 0x23 ∷ 0xA8 ∷ 0x62 ∷ 0x00 ∷ 0x93 ∷ 0x08 ∷ 0x00 ∷ 0x00
    ∷ 0x13 ∷ 0x05 ∷ 0x10 ∷ 0x00 ∷ 0x73 ∷ 0x00 ∷ 0x00 ∷ 0x00 ∷ 0x13 ∷ 0x05 ∷ 0x90 ∷ 0x00 ∷ [])
    ∷ scratch_page ∷ []

-- lui t0,0x11; addi t1,x0,7; sb t1,0(t0); lw a0,2(t0)
abbrev pub trap : Memory
trap =
    (0xB7 ∷ 0x12 ∷ 0x01 ∷ 0x00 ∷ 0x13 ∷ 0x03 ∷ 0x70 ∷ 0x00 ∷ 0x23 ∷ 0x80 ∷ 0x62 ∷ 0x00 ∷ 0x03 ∷ 0xA5 ∷ 0x22 ∷ 0x00 ∷ [])
    ∷ scratch_page ∷ []
