-- Worked examples of whole runs, each computed by the checker. Schedules, ends and outputs were worked out by hand.
use Rattle.std.proofs.Common.{◌≡◌, ℕ, true, false, not, ◌&&◌, List, [], ◌∷◌, Option, Some, refl}
use Rattle.isa_spec.specs.Fields.{i_immediate, s_immediate, u_immediate}
use Rattle.isa_spec.specs.Registers.{with_register, with_pc}
use Rattle.isa_spec.specs.Operations.{immediate_result, shift_result, register_result}
use Rattle.isa_spec.specs.Table.{decoded, reading_of}
use Rattle.memory_spec.specs.Pages.{Memory, permission_at, page_of}
use Rattle.memory_spec.specs.Stores.{with_byte}
use Rattle.memory_spec.specs.Access.{number_in, number_at, loaded, fetched, may_store, bytes_stored}
use Rattle.guest_call.specs.Objects.{all_unlocked}
use Rattle.thunk_spec.specs.Put.{is_readable, put_addresses}
use Rattle.thunk_spec.specs.Turn.{turn}
use Rattle.thunk_spec.specs.Thunk.{thunk}
use Rattle.machine_spec.specs.declared.states.Status.TheVariants.{Ready}
use Rattle.machine_spec.specs.declared.states.End.{End}
use Rattle.machine_spec.specs.declared.states.End.TheVariants.{Exit, Trap, Deadlock, Spent}
use Rattle.isa_spec.specs.declared.Cause.TheVariants.{BadCall, LoadMisaligned}
use Rattle.machine_spec.specs.Machine.{Machine, hart_of}
use Rattle.machine_spec.specs.Performing.{first_registers}
use Rattle.machine_spec.specs.Step.{step, finished}
use Rattle.machine_spec.specs.Schedule.{scratch_from, is_permitted_from, is_complete_from}
use Rattle.machine_spec.specs.Choice.{choice, alone_from}
use Rattle.thunk_spec.proofs.Guests as small
use Rattle.machine_spec.proofs.Guests.{begins, late, bytes, cross, perm, bad}

-- how a machine has ended, how many steps it has made, and its output
abbrev pub outcome : Machine → Option End × ℕ × List ℕ
outcome m = (m.ending, m.steps, m.output)

-- the machine after the schedule that the choice gives
abbrev pub run : ℕ → ℕ → Memory → Machine
run fuel limit memory = scratch_from (begins fuel limit memory) (alone_from limit (begins fuel limit memory))

-- The guest that prints "hi" makes two steps and exits.
pub hi-schedule : alone_from 9 (begins 9 9 small.hi) ≡ 0 ∷ 0 ∷ []
unfolding step finished thunk turn fetched number_at number_in permission_at decoded reading_of u_immediate i_immediate
    s_immediate immediate_result shift_result register_result with_register is_readable put_addresses loaded may_store
    bytes_stored with_byte first_registers all_unlocked choice
hi-schedule = refl

pub hi-outcome : outcome (run 9 9 small.hi) ≡ (Some (Exit 0), 2, 0x68 ∷ 0x69 ∷ 0x0A ∷ [])
unfolding step finished thunk turn fetched number_at number_in permission_at decoded reading_of u_immediate i_immediate
    s_immediate immediate_result shift_result register_result with_register is_readable put_addresses loaded may_store
    bytes_stored with_byte first_registers all_unlocked choice
hi-outcome = refl

-- Put answers how many bytes it appended, and the pc moves on.
pub hi-answer :
    (hart_of (scratch_from (begins 9 9 small.hi) (0 ∷ [])) 0).regs
    ≡ with_register (with_register (with_pc (first_registers 0 0x10014 3) 0x10014) 11 3) 17 1
unfolding step finished thunk turn fetched number_at number_in permission_at decoded reading_of u_immediate i_immediate
    s_immediate immediate_result shift_result register_result with_register is_readable put_addresses loaded may_store
    bytes_stored with_byte first_registers all_unlocked choice
hi-answer = refl

-- With a fuel of 4 the ECALL isn't reached: spent, and nothing was put. With 5 it is the last turn.
pub hi-fuel_4 : outcome (run 4 9 small.hi) ≡ (Some Spent, 1, [])
unfolding step finished thunk turn fetched number_at number_in permission_at decoded reading_of u_immediate i_immediate
    s_immediate immediate_result shift_result register_result with_register is_readable put_addresses loaded may_store
    bytes_stored with_byte first_registers all_unlocked choice
hi-fuel_4 = refl

pub hi-fuel_5 : outcome (run 5 9 small.hi) ≡ (Some (Exit 0), 2, 0x68 ∷ 0x69 ∷ 0x0A ∷ [])
unfolding step finished thunk turn fetched number_at number_in permission_at decoded reading_of u_immediate i_immediate
    s_immediate immediate_result shift_result register_result with_register is_readable put_addresses loaded may_store
    bytes_stored with_byte first_registers all_unlocked choice
hi-fuel_5 = refl

-- An exit with the last step that the limit allows is an exit; with one step less it is spent.
pub hi-limit_2 : outcome (run 9 2 small.hi) ≡ (Some (Exit 0), 2, 0x68 ∷ 0x69 ∷ 0x0A ∷ [])
unfolding step finished thunk turn fetched number_at number_in permission_at decoded reading_of u_immediate i_immediate
    s_immediate immediate_result shift_result register_result with_register is_readable put_addresses loaded may_store
    bytes_stored with_byte first_registers all_unlocked choice
hi-limit_2 = refl

pub hi-limit_1 : outcome (run 9 1 small.hi) ≡ (Some Spent, 1, 0x68 ∷ 0x69 ∷ 0x0A ∷ [])
unfolding step finished thunk turn fetched number_at number_in permission_at decoded reading_of u_immediate i_immediate
    s_immediate immediate_result shift_result register_result with_register is_readable put_addresses loaded may_store
    bytes_stored with_byte first_registers all_unlocked choice
hi-limit_1 = refl

-- A trap names the thread, the address of the instruction and the cause; the store before it is in shared memory.
pub trap-outcome : outcome (run 9 9 small.trap) ≡ (Some (Trap 0 0x1000C LoadMisaligned), 1, [])
unfolding step finished thunk turn fetched number_at number_in permission_at decoded reading_of u_immediate i_immediate
    s_immediate immediate_result shift_result register_result with_register is_readable put_addresses loaded may_store
    bytes_stored with_byte first_registers all_unlocked choice
trap-outcome = refl

pub trap-memory : page_of (run 9 9 small.trap).memory 1 ≡ 7 ∷ 0xFF ∷ 0x7F ∷ 0x01 ∷ 0 ∷ 0 ∷ 0 ∷ 0 ∷ []
unfolding step finished thunk turn fetched number_at number_in permission_at decoded reading_of u_immediate i_immediate
    s_immediate immediate_result shift_result register_result with_register is_readable put_addresses loaded may_store
    bytes_stored with_byte first_registers all_unlocked choice
trap-memory = refl

-- A guest that rewrites its own code exits with 9.
pub self-outcome : outcome (run 9 9 small.self) ≡ (Some (Exit 9), 1, [])
unfolding step finished thunk turn fetched number_at number_in permission_at decoded reading_of u_immediate i_immediate
    s_immediate immediate_result shift_result register_result with_register is_readable put_addresses loaded may_store
    bytes_stored with_byte first_registers all_unlocked choice
self-outcome = refl

-- An unlock of a free mutex answers EPERM, negated.
pub perm-outcome : outcome (run 9 9 perm) ≡ (Some (Exit 4294967295), 2, [])
unfolding step finished thunk turn fetched number_at number_in permission_at decoded reading_of u_immediate i_immediate
    s_immediate immediate_result shift_result register_result with_register is_readable put_addresses loaded may_store
    bytes_stored with_byte first_registers all_unlocked choice
perm-outcome = refl

-- A call in no row of the table is a trap at the ECALL.
pub bad-outcome : outcome (run 9 9 bad) ≡ (Some (Trap 0 0x10004 BadCall), 1, [])
unfolding step finished thunk turn fetched number_at number_in permission_at decoded reading_of u_immediate i_immediate
    s_immediate immediate_result shift_result register_result with_register is_readable put_addresses loaded may_store
    bytes_stored with_byte first_registers all_unlocked choice
bad-outcome = refl

-- Thread 0 has its view from before thread 1's store, until its own call returns: it loads 0 and then 51.
pub late-schedule : alone_from 9 (begins 9 9 late) ≡ 0 ∷ 1 ∷ 0 ∷ 1 ∷ 0 ∷ []
unfolding step finished thunk turn fetched number_at number_in permission_at decoded reading_of u_immediate i_immediate
    s_immediate immediate_result shift_result register_result with_register is_readable put_addresses loaded may_store
    bytes_stored with_byte first_registers all_unlocked choice
late-schedule = refl

pub late-outcome : outcome (run 9 9 late) ≡ (Some (Exit 51), 5, [])
unfolding step finished thunk turn fetched number_at number_in permission_at decoded reading_of u_immediate i_immediate
    s_immediate immediate_result shift_result register_result with_register is_readable put_addresses loaded may_store
    bytes_stored with_byte first_registers all_unlocked choice
late-outcome = refl

-- A step of thread 1 leaves thread 0, which is ready, as it is: registers, view, number and status.
pub late-stays :
    hart_of (scratch_from (begins 9 9 late) (0 ∷ 1 ∷ [])) 0 ≡ hart_of (scratch_from (begins 9 9 late) (0 ∷ [])) 0
unfolding step finished thunk turn fetched number_at number_in permission_at decoded reading_of u_immediate i_immediate
    s_immediate immediate_result shift_result register_result with_register is_readable put_addresses loaded may_store
    bytes_stored with_byte first_registers all_unlocked choice
late-stays = refl

-- A created thread has its own stack and number, the argument in a0, and shared memory as its view.
pub late-created :
    hart_of (scratch_from (begins 9 9 late) (0 ∷ [])) 1
    ≡ record { view = late; regs = first_registers 1 0x1003C 0; number = 0; status = Ready }
unfolding step finished thunk turn fetched number_at number_in permission_at decoded reading_of u_immediate i_immediate
    s_immediate immediate_result shift_result register_result with_register is_readable put_addresses loaded may_store
    bytes_stored with_byte first_registers all_unlocked choice
late-created = refl

-- Two threads whose views are from before each other's store: both bytes are kept.
pub bytes-permitted : is_permitted_from (begins 9 9 bytes) (0 ∷ 0 ∷ 1 ∷ 2 ∷ 0 ∷ 0 ∷ 0 ∷ 0 ∷ []) ≡ true
unfolding step finished thunk turn fetched number_at number_in permission_at decoded reading_of u_immediate i_immediate
    s_immediate immediate_result shift_result register_result with_register is_readable put_addresses loaded may_store
    bytes_stored with_byte first_registers all_unlocked choice
bytes-permitted = refl

pub bytes-outcome :
    outcome (scratch_from (begins 9 9 bytes) (0 ∷ 0 ∷ 1 ∷ 2 ∷ 0 ∷ 0 ∷ 0 ∷ 0 ∷ []))
    ≡ (Some (Exit 0), 8, 0x11 ∷ 0x12 ∷ [])
unfolding step finished thunk turn fetched number_at number_in permission_at decoded reading_of u_immediate i_immediate
    s_immediate immediate_result shift_result register_result with_register is_readable put_addresses loaded may_store
    bytes_stored with_byte first_registers all_unlocked choice
bytes-outcome = refl

-- Two threads that lock two mutexes in opposite order: by the choice they wait for each other.
pub cross-schedule : alone_from 20 (begins 9 20 cross) ≡ 0 ∷ 1 ∷ 0 ∷ 1 ∷ 0 ∷ []
unfolding step finished thunk turn fetched number_at number_in permission_at decoded reading_of u_immediate i_immediate
    s_immediate immediate_result shift_result register_result with_register is_readable put_addresses loaded may_store
    bytes_stored with_byte first_registers all_unlocked choice
cross-schedule = refl

pub cross-outcome : outcome (run 9 20 cross) ≡ (Some Deadlock, 5, [])
unfolding step finished thunk turn fetched number_at number_in permission_at decoded reading_of u_immediate i_immediate
    s_immediate immediate_result shift_result register_result with_register is_readable put_addresses loaded may_store
    bytes_stored with_byte first_registers all_unlocked choice
cross-outcome = refl

-- By another schedule the run exits.
pub cross-other :
    outcome (scratch_from (begins 9 20 cross) (0 ∷ 0 ∷ 0 ∷ 0 ∷ 0 ∷ 1 ∷ 1 ∷ 1 ∷ 1 ∷ 1 ∷ 0 ∷ 0 ∷ []))
    ≡ (Some (Exit 0), 12, [])
unfolding step finished thunk turn fetched number_at number_in permission_at decoded reading_of u_immediate i_immediate
    s_immediate immediate_result shift_result register_result with_register is_readable put_addresses loaded may_store
    bytes_stored with_byte first_registers all_unlocked choice
cross-other = refl

-- No step follows an end; a thread that doesn't exist makes none; a schedule that stops before an end isn't complete.
pub cross-after_end : is_permitted_from (begins 9 20 cross) (0 ∷ 0 ∷ 1 ∷ 0 ∷ 1 ∷ 0 ∷ []) ≡ false
unfolding step finished thunk turn fetched number_at number_in permission_at decoded reading_of u_immediate i_immediate
    s_immediate immediate_result shift_result register_result with_register is_readable put_addresses loaded may_store
    bytes_stored with_byte first_registers all_unlocked choice
cross-after_end = refl

pub cross-nobody : is_permitted_from (begins 9 20 cross) (1 ∷ []) ≡ false
unfolding step finished thunk turn fetched number_at number_in permission_at decoded reading_of u_immediate i_immediate
    s_immediate immediate_result shift_result register_result with_register is_readable put_addresses loaded may_store
    bytes_stored with_byte first_registers all_unlocked choice
cross-nobody = refl

pub cross-early :
    is_permitted_from (begins 9 20 cross) (0 ∷ 0 ∷ 1 ∷ []) && not
    (is_complete_from (begins 9 20 cross) (0 ∷ 0 ∷ 1 ∷ [])) ≡ true
unfolding step finished thunk turn fetched number_at number_in permission_at decoded reading_of u_immediate i_immediate
    s_immediate immediate_result shift_result register_result with_register is_readable put_addresses loaded may_store
    bytes_stored with_byte first_registers all_unlocked choice
cross-early = refl
