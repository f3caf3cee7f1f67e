-- The guest can be written, and its file is small.
use Rattle.std.proofs.Common.{◌≡◌, ℕ, ◌+◌, ◌%◌, ◌^◌, ◌==◌, ◌&&◌, nat_lt, Bool, true, false, List, [], ◌∷◌, length, All, refl, sym, ap, append_assoc, ◌∙◌}
use Rattle.std.specs.List.{list_all}
use Rattle.std.proofs.lemmas.Bool.{and_parts, ltb-true, eqb-true}
use Rattle.std.proofs.lemmas.List.Elements.{All-cons, All-nil}
use Rattle.isa_spec.specs.declared.Instr.{Instr}
use Rattle.isa_spec.specs.declared.Instr.TheVariants as instr
use Rattle.isa_spec.specs.Words.{sign_extended}
use Rattle.isa_spec.specs.Encoding.{InRange}
use Rattle.rv_asm.specs.declared.item.Item.{Item}
use Rattle.rv_asm.specs.declared.item.Item.TheVariants.{Instruction, Word, Byte}
use Rattle.rv_asm.specs.Items.{items_bytes, IsWritable}
use Rattle.rv_asm.specs.File.{file_header, segment_header, guest_file}
use Rattle.rv_asm.proofs.Headers.{length-file}
use Rattle.guest_gen.specs.declared.guest.TheConstants.{ITEMS}

-- a test that an instruction passes whose operands are in range
is_in_range : Instr → Bool
is_in_range (instr.Lui rd imm) = nat_lt rd 32 && (nat_lt imm (2 ^ 32) && imm % 2 ^ 12 == 0)
is_in_range (instr.Branch t rs1 rs2 imm) =
    nat_lt rs1 32 && (nat_lt rs2 32 && (sign_extended 13 (imm % 2 ^ 13) == imm && imm % 2 == 0))
is_in_range (instr.Load l rd rs1 imm) = nat_lt rd 32 && (nat_lt rs1 32 && sign_extended 12 (imm % 2 ^ 12) == imm)
is_in_range (instr.Store s rs1 rs2 imm) = nat_lt rs1 32 && (nat_lt rs2 32 && sign_extended 12 (imm % 2 ^ 12) == imm)
is_in_range (instr.Immediate o rd rs1 imm) = nat_lt rd 32 && (nat_lt rs1 32 && sign_extended 12 (imm % 2 ^ 12) == imm)
is_in_range (instr.Shift s rd rs1 amount) = nat_lt rd 32 && (nat_lt rs1 32 && nat_lt amount 32)
is_in_range (instr.Register o rd rs1 rs2) = nat_lt rd 32 && (nat_lt rs1 32 && nat_lt rs2 32)
is_in_range instr.Ecall = true
is_in_range _ = false

-- three tests that passed
three : (a b c : Bool) → (a && (b && c)) ≡ true → (a ≡ true) × (b ≡ true) × (c ≡ true)
three a b c h = let first = and_parts a (b && c) h in let rest = and_parts b c first.1 in (first.0, rest.0, rest.1)

in_range : (i : Instr) → is_in_range i ≡ true → InRange i
unfolding is_in_range
in_range (instr.Lui rd imm) h =
    let t = three (nat_lt rd 32) (nat_lt imm (2 ^ 32)) (imm % 2 ^ 12 == 0) h in
    (ltb-true rd 32 t.0, (ltb-true imm (2 ^ 32) t.1, eqb-true (imm % 2 ^ 12) 0 t.2))
in_range (instr.Branch b rs1 rs2 imm) h =
    let t = three (nat_lt rs1 32) (nat_lt rs2 32) (sign_extended 13 (imm % 2 ^ 13) == imm && imm % 2 == 0) h in
    let e = and_parts (sign_extended 13 (imm % 2 ^ 13) == imm) (imm % 2 == 0) t.2 in (
      ltb-true rs1 32 t.0,
      ltb-true rs2 32 t.1,
      (eqb-true (sign_extended 13 (imm % 2 ^ 13)) imm e.0, eqb-true (imm % 2) 0 e.1),
    )
in_range (instr.Load l rd rs1 imm) h =
    let t = three (nat_lt rd 32) (nat_lt rs1 32) (sign_extended 12 (imm % 2 ^ 12) == imm) h in
    (ltb-true rd 32 t.0, ltb-true rs1 32 t.1, eqb-true (sign_extended 12 (imm % 2 ^ 12)) imm t.2)
in_range (instr.Store s rs1 rs2 imm) h =
    let t = three (nat_lt rs1 32) (nat_lt rs2 32) (sign_extended 12 (imm % 2 ^ 12) == imm) h in
    (ltb-true rs1 32 t.0, ltb-true rs2 32 t.1, eqb-true (sign_extended 12 (imm % 2 ^ 12)) imm t.2)
in_range (instr.Immediate o rd rs1 imm) h =
    let t = three (nat_lt rd 32) (nat_lt rs1 32) (sign_extended 12 (imm % 2 ^ 12) == imm) h in
    (ltb-true rd 32 t.0, ltb-true rs1 32 t.1, eqb-true (sign_extended 12 (imm % 2 ^ 12)) imm t.2)
in_range (instr.Shift s rd rs1 amount) h =
    let t = three (nat_lt rd 32) (nat_lt rs1 32) (nat_lt amount 32) h in
    (ltb-true rd 32 t.0, ltb-true rs1 32 t.1, ltb-true amount 32 t.2)
in_range (instr.Register o rd rs1 rs2) h =
    let t = three (nat_lt rd 32) (nat_lt rs1 32) (nat_lt rs2 32) h in
    (ltb-true rd 32 t.0, ltb-true rs1 32 t.1, ltb-true rs2 32 t.2)
in_range instr.Ecall h = tt
in_range (instr.Auipc rd imm) h = cc
in_range (instr.Jal rd imm) h = cc
in_range (instr.Jalr rd rs1 imm) h = cc
in_range instr.Fence h = tt
in_range instr.Ebreak h = tt

-- a test that an item passes which can be written
is_writable : Item → Bool
is_writable (Instruction i) = is_in_range i
is_writable (Word word) = true
is_writable (Byte byte) = true

writable : (items : List Item) → list_all is_writable items ≡ true → All IsWritable items
unfolding is_writable
writable [] h = All-nil IsWritable
writable (Instruction i ∷ items) h =
    let parts = and_parts (is_in_range i) (list_all is_writable items) h in
    All-cons IsWritable (Instruction i) items (in_range i parts.0) (writable items parts.1)
writable (Word word ∷ items) h = All-cons IsWritable (Word word) items tt (writable items h)
writable (Byte byte ∷ items) h = All-cons IsWritable (Byte byte) items tt (writable items h)

-- the guest can be written
pub items-writable : All IsWritable ITEMS
unfolding is_writable is_in_range
items-writable = writable ITEMS refl

-- how many bytes it has, and its file
pub length-items_bytes : length (items_bytes ITEMS) ≡ 228
length-items_bytes = refl

pub length-guest_file :
    (base : ℕ) (bytes : List ℕ) (bss : ℕ) → length (guest_file base bytes bss) ≡ 84 + length bytes
unfolding guest_file
length-guest_file base bytes bss =
    ap length (sym (append_assoc (file_header base) (segment_header base (length bytes) (length bytes + bss)) bytes))
    ∙ length-file base (length bytes) (length bytes + bss) bytes
