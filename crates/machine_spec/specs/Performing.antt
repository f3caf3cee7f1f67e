-- How the effect of a call is performed on the harts: one way for all calls.
use Rattle.std.specs.Prelude.{ℕ, ◌+◌, ◌*◌, List, [], ◌∷◌, ◌++◌, length, replicate, slice_set, Option, Some, None}
use Rattle.isa_spec.specs.Registers.{Registers, with_register, with_pc}
use Rattle.isa_spec.specs.Words.{sum_of}
use Rattle.memory_spec.specs.Pages.{Memory}
use Rattle.guest_call.specs.declared.Fate.{Fate}
use Rattle.guest_call.specs.declared.Fate.TheVariants.{Returns, Blocks, Ends, Exits}
use Rattle.guest_call.specs.Effect.{Effect}
use Rattle.machine_spec.specs.declared.TheConstants.{STACKS, STACK_BYTES}
use Rattle.machine_spec.specs.declared.states.Status.TheVariants.{Ready, Blocked, Ended}
use Rattle.machine_spec.specs.Machine.{Hart, hart_in}

-- The registers after an answer: a0 has it, a1 the second value if there is one, and the pc moves on by 4. (The
-- registers' names are the RISC-V ELF psABI's.)
abbrev pub answered : Registers → ℕ → Option ℕ → Registers
answered r a0 None = with_pc (with_register r 10 a0) (sum_of r.pc 4)
answered r a0 (Some a1) = with_pc (with_register (with_register r 10 a0) 11 a1) (sum_of r.pc 4)

-- A hart whose call returns: it has the answer, its view is shared memory as it now is, and it is ready. Each call
-- acquires.
abbrev pub returned : Memory → ℕ → Option ℕ → Hart → Hart
returned memory a0 a1 h = record { view = memory; regs = answered h.regs a0 a1; number = h.number; status = Ready }

-- What becomes of the caller's hart.
abbrev pub fated : Fate → Memory → Hart → Hart
fated (Returns a0 a1) memory h = returned memory a0 a1 h
fated Blocks memory h = record h { status = Blocked }
fated (Ends value) memory h = record h { status = Ended value }
fated (Exits code) memory h = h

-- The harts after the calls of these waiting threads returned 0, and the same second value, if there is one.
abbrev pub woken : Memory → Option ℕ → List ℕ → List Hart → List Hart
woken memory reported [] harts = harts
woken memory reported (u ∷ threads) harts =
    woken memory reported threads (slice_set harts u (returned memory 0 reported (hart_in harts u)))

-- The first registers of thread t: pc, argument in a0, its own stack's end in sp, its number in tp, and the rest 0.
-- (The registers' names are the RISC-V ELF psABI's.)
unfoldable pub first_registers : ℕ → ℕ → ℕ → Registers
first_registers t pc argument =
    record {
      pc = pc;
      x = 0 ∷ 0 ∷ (STACKS + STACK_BYTES * (t + 1)) ∷ 0 ∷ t ∷ 0 ∷ 0 ∷ 0 ∷ 0 ∷ 0 ∷ argument ∷ replicate 21 0;
    }

-- A created thread's hart: ready, no step made, and its view is shared memory as it now is. (POSIX.1-2017,
-- pthread_create)
abbrev pub first_hart : Memory → ℕ → ℕ → ℕ → Hart
first_hart memory t pc argument =
    record { view = memory; regs = first_registers t pc argument; number = 0; status = Ready }

-- The harts with one that was created, which has the least unused number. (POSIX.1-2017, pthread_create)
abbrev pub with_created : Memory → Option (ℕ × ℕ) → List Hart → List Hart
with_created memory None harts = harts
with_created memory (Some c) harts = harts ++ first_hart memory (length harts) c.0 c.1 ∷ []

-- The harts after an effect of a call of thread t: the caller's fate, then the woken, then the created.
abbrev pub settled : Effect → Memory → ℕ → List Hart → List Hart
settled e memory t harts =
    with_created memory e.created
    (woken memory e.reported e.woken (slice_set harts t (fated e.fate memory (hart_in harts t))))
