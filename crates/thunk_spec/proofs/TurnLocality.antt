-- A turn is the same on each view that has the same bytes in the pages that it took bytes from.
use Rattle.std.proofs.Common.{◌≡◌, ℕ, ◌%◌, Bool, true, false, eqb, cond, List, Option, Some, None, refl, ap}
use Rattle.isa_spec.specs.declared.Instr.{Instr}
use Rattle.isa_spec.specs.declared.Instr.TheVariants as instr
use Rattle.isa_spec.specs.declared.Load.{Load}
use Rattle.isa_spec.specs.Words.{sum_of}
use Rattle.isa_spec.specs.Registers.{Registers, register}
use Rattle.isa_spec.specs.Table.{decoded}
use Rattle.memory_spec.specs.declared.Size.{Size}
use Rattle.memory_spec.specs.declared.Size.TheVariants.{Four}
use Rattle.memory_spec.specs.Pages.{Mapped, Memory, allows, read_right, execute_right, permission_at, slot_of, page_of}
use Rattle.memory_spec.specs.Access.{byte_count, number_at, loaded, fetched}
use Rattle.thunk_spec.specs.declared.ends.Outcome.TheVariants.{Trap}
use Rattle.isa_spec.specs.declared.Cause.TheVariants.{InstructionMisaligned, LoadMisaligned}
use Rattle.thunk_spec.specs.Turn.{turn, executed, word_turn, with_fetch, fetch_found, load_turn, load_found, load_size, stopped}
use Rattle.thunk_spec.specs.Locality.{Agree}

-- the number at an address lies in one page
pub number_at-same :
    (map : List Mapped) (view other : Memory) (address : ℕ) (size : Size)
    → page_of other (slot_of map address) ≡ page_of view (slot_of map address)
    → number_at map other address size ≡ number_at map view address size
unfolding number_at
number_at-same map view other address size same = rw same refl

-- a load, whether or not it is permitted, is the same
load_found-same :
    (map : List Mapped) (view other : Memory) (r : Registers) (kind : Load) (rd address : ℕ) (b : Bool)
    → Agree map view other
    (load_found r kind rd address (cond b (Some (number_at map view address (load_size kind))) None)).taken
    → load_found r kind rd address (cond b (Some (number_at map other address (load_size kind))) None)
    ≡ load_found r kind rd address (cond b (Some (number_at map view address (load_size kind))) None)
load_found-same map view other r kind rd address true agree =
    rw (number_at-same map view other address (load_size kind) agree.0) refl
load_found-same map view other r kind rd address false agree = refl

load_turn-same :
    (map : List Mapped) (view other : Memory) (r : Registers) (kind : Load) (rd address : ℕ)
    → Agree map view other (load_turn map view r kind rd address).taken
    → load_turn map other r kind rd address ≡ load_turn map view r kind rd address
unfolding loaded
load_turn-same map view other r kind rd address =
    elim (eqb (address % byte_count (load_size kind)) 0)
    as (λ b.
    Agree map view other
    (cond b (load_found r kind rd address (loaded map view address (load_size kind)))
    (stopped (Trap LoadMisaligned) r)).taken
    → cond b (load_found r kind rd address (loaded map other address (load_size kind)))
    (stopped (Trap LoadMisaligned) r)
    ≡ cond b (load_found r kind rd address (loaded map view address (load_size kind)))
    (stopped (Trap LoadMisaligned) r)) [
      | true ↦ load_found-same map view other r kind rd address
          (allows read_right (permission_at map address))
      | false ↦ λ _. refl
    ]

-- only a load reads the memory
executed-same :
    (map : List Mapped) (view other : Memory) (r : Registers) (i : Instr)
    → Agree map view other (executed map view r i).taken
    → executed map other r i ≡ executed map view r i
executed-same map view other r (instr.Load kind rd rs1 imm) agree =
    load_turn-same map view other r kind rd (sum_of (register r rs1) imm) agree
executed-same map view other r _ agree = refl

word_turn-same :
    (map : List Mapped) (view other : Memory) (r : Registers) (i : Option Instr)
    → Agree map view other (word_turn map view r i).taken
    → word_turn map other r i ≡ word_turn map view r i
word_turn-same map view other r (Some i) agree = executed-same map view other r i agree
word_turn-same map view other r None agree = refl

fetch_found-same :
    (map : List Mapped) (view other : Memory) (r : Registers) (b : Bool)
    → Agree map view other (fetch_found map view r (cond b (Some (number_at map view r.pc Four)) None)).taken
    → fetch_found map other r (cond b (Some (number_at map other r.pc Four)) None)
    ≡ fetch_found map view r (cond b (Some (number_at map view r.pc Four)) None)
fetch_found-same map view other r true agree =
    rw (number_at-same map view other r.pc Four agree.0)
    (ap (with_fetch r.pc) (word_turn-same map view other r (decoded (number_at map view r.pc Four)) agree.1))
fetch_found-same map view other r false agree = refl

-- a turn depends on the pages that it took bytes from, and on no other page of the view
pub turn-same :
    (map : List Mapped) (view other : Memory) (r : Registers)
    → Agree map view other (turn map view r).taken
    → turn map other r ≡ turn map view r
unfolding turn fetched
turn-same map view other r =
    elim (eqb (r.pc % 4) 0)
    as (λ b.
    Agree map view other
    (cond b (fetch_found map view r (fetched map view r.pc)) (stopped (Trap InstructionMisaligned) r)).taken
    → cond b (fetch_found map other r (fetched map other r.pc)) (stopped (Trap InstructionMisaligned) r)
    ≡ cond b (fetch_found map view r (fetched map view r.pc)) (stopped (Trap InstructionMisaligned) r))
    [ true ↦ fetch_found-same map view other r (allows execute_right (permission_at map r.pc)) | false ↦ λ _. refl ]
