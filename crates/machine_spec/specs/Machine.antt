-- The state of the guest machine between two steps.
use Rattle.std.specs.Prelude.{ℕ, Bool, true, false, List, [], Option, slice_index_or}
use Rattle.isa_spec.specs.Registers.{Registers}
use Rattle.memory_spec.specs.Pages.{Memory}
use Rattle.thunk_spec.specs.Thunk.{Frame}
use Rattle.guest_call.specs.Objects.{Objects}
use Rattle.machine_spec.specs.declared.states.Status.{Status}
use Rattle.machine_spec.specs.declared.states.Status.TheVariants.{Ready, Blocked, Ended}
use Rattle.machine_spec.specs.declared.states.End.{End}

-- A hart, as the thread that runs on it has it between two steps: its view of memory, its registers, how many steps it
-- has made, and its status. (RISC-V unprivileged ISA 20191213, 1.1)
pub record Hart : Type 0 where
  pub view : Memory
  pub regs : Registers
  pub number : ℕ
  pub status : Status

-- The machine: what no step changes (map and fuel, the step limit), shared memory, the harts by thread number, the
-- objects, the output, the number of steps made, and how it ended, if it has.
pub record Machine : Type 0 where
  pub frame : Frame
  pub limit : ℕ
  pub memory : Memory
  pub harts : List Hart
  pub objects : Objects
  pub output : List ℕ
  pub steps : ℕ
  pub ending : Option End

-- The stand-in for a thread that doesn't exist: it isn't ready, and waits for nothing.
abbrev pub nobody : Hart
nobody = record { view = []; regs = record { pc = 0; x = [] }; number = 0; status = Ended 0 }

-- The hart of a thread.
abbrev pub hart_in : List Hart → ℕ → Hart
hart_in harts t = slice_index_or harts t nobody

abbrev pub hart_of : Machine → ℕ → Hart
hart_of m t = hart_in m.harts t

-- Whether a status is Ready, whether it is Blocked, and whether it is Ended.
abbrev pub is_ready : Status → Bool
is_ready Ready = true
is_ready Blocked = false
is_ready (Ended value) = false

abbrev pub is_blocked : Status → Bool
is_blocked Ready = false
is_blocked Blocked = true
is_blocked (Ended value) = false

abbrev pub is_ended : Status → Bool
is_ended Ready = false
is_ended Blocked = false
is_ended (Ended value) = true
