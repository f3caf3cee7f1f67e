-- Worked examples of single steps and of how runs end, each computed by the checker. The values were worked out by
-- hand.
use Rattle.std.proofs.Common.{◌≡◌, ℕ, true, false, List, [], ◌∷◌, length, replicate, Some, None, refl}
use Rattle.isa_spec.specs.Fields.{i_immediate, s_immediate, u_immediate}
use Rattle.isa_spec.specs.Registers.{with_register}
use Rattle.isa_spec.specs.Operations.{immediate_result, shift_result, register_result}
use Rattle.isa_spec.specs.Table.{decoded, reading_of}
use Rattle.isa_spec.specs.declared.Cause.TheVariants.{BadCall, LoadMisaligned}
use Rattle.memory_spec.specs.Pages.{Memory, permission_at}
use Rattle.memory_spec.specs.Stores.{with_byte}
use Rattle.memory_spec.specs.Access.{number_in, number_at, loaded, fetched, may_store, bytes_stored}
use Rattle.guest_call.specs.Objects.{all_unlocked}
use Rattle.thunk_spec.specs.declared.ends.ThunkEnd.TheVariants as thunk_end
use Rattle.thunk_spec.specs.Put.{is_readable, put_addresses}
use Rattle.thunk_spec.specs.Turn.{turn}
use Rattle.thunk_spec.specs.Thunk.{thunk}
use Rattle.thunk_spec.specs.Record.{Record, may_end, fits_at}
use Rattle.machine_spec.specs.declared.states.Status.{Status}
use Rattle.machine_spec.specs.declared.states.Status.TheVariants.{Ready, Blocked, Ended}
use Rattle.machine_spec.specs.declared.states.End.TheVariants.{Exit, Trap, Deadlock, Spent}
use Rattle.machine_spec.specs.Machine.{Machine, Hart, hart_of}
use Rattle.machine_spec.specs.Performing.{first_registers, first_hart, woken, fated}
use Rattle.guest_call.specs.declared.Fate.TheVariants.{Blocks}
use Rattle.machine_spec.specs.Step.{step, finished, fits}
use Rattle.machine_spec.specs.Schedule.{scratch_from, is_permitted_from}
use Rattle.machine_spec.specs.Choice.{choice}
use Rattle.thunk_spec.proofs.Guests as small
use Rattle.machine_spec.proofs.Guests.{begins, two_bytes, cross, bad}
use Rattle.machine_spec.proofs.RunExamples.{outcome, run}

-- main: create a thread, join it, load the byte at 0x11000, and exit with the value joined plus 256 times the byte;
-- the thread: store 51 there, and end with 7
abbrev pub joined : Memory
joined =
    (0x37 ∷ 0x05 ∷ 0x01 ∷ 0x00 ∷ 0x13 ∷ 0x05 ∷ 0x85 ∷ 0x03 ∷ 0x93 ∷ 0x05 ∷ 0x00 ∷ 0x00 ∷ 0x93 ∷ 0x08 ∷ 0x20 ∷ 0x00
    ∷ 0x73 ∷ 0x00 ∷ 0x00 ∷ 0x00 ∷ 0x13 ∷ 0x05 ∷ 0x10 ∷ 0x00
    ∷ 0x93 ∷ 0x08 ∷ 0x40 ∷ 0x00 ∷ 0x73 ∷ 0x00 ∷ 0x00 ∷ 0x00 ∷ 0xB7 ∷ 0x12 ∷ 0x01 ∷ 0x00 ∷ 0x83 ∷ 0xC2 ∷ 0x02 ∷ 0x00
    ∷ 0x93 ∷ 0x92 ∷ 0x82 ∷ 0x00 ∷ 0x33 ∷ 0x85 ∷ 0x55 ∷ 0x00
    ∷ 0x93 ∷ 0x08 ∷ 0x00 ∷ 0x00 ∷ 0x73 ∷ 0x00 ∷ 0x00 ∷ 0x00 ∷ 0xB7 ∷ 0x12 ∷ 0x01 ∷ 0x00 ∷ 0x13 ∷ 0x03 ∷ 0x30 ∷ 0x03
    ∷ 0x23 ∷ 0x80 ∷ 0x62 ∷ 0x00 ∷ 0x13 ∷ 0x05 ∷ 0x70 ∷ 0x00
    ∷ 0x93 ∷ 0x08 ∷ 0x30 ∷ 0x00 ∷ 0x73 ∷ 0x00 ∷ 0x00 ∷ 0x00 ∷ [])
    ∷ two_bytes ∷ []

-- end the thread
abbrev pub leave : Memory
leave = (0x93 ∷ 0x08 ∷ 0x30 ∷ 0x00 ∷ 0x73 ∷ 0x00 ∷ 0x00 ∷ 0x00 ∷ []) ∷ two_bytes ∷ []

-- Thread 0 has the first stack, which ends at 0xD0010000: sp is x2, tp is x4, a0 is x10.
pub first_registers-0 :
    first_registers 0 0x10000 0xC0000000
    ≡ record { pc = 0x10000; x = 0 ∷ 0 ∷ 0xD0010000 ∷ 0 ∷ 0 ∷ 0 ∷ 0 ∷ 0 ∷ 0 ∷ 0 ∷ 0xC0000000 ∷ replicate 21 0 }
unfolding first_registers
first_registers-0 = refl

-- Thread 31 has the last stack.
pub first_registers-31 :
    first_registers 31 0x10004 7
    ≡ record { pc = 0x10004; x = 0 ∷ 0 ∷ 0xD0200000 ∷ 0 ∷ 31 ∷ 0 ∷ 0 ∷ 0 ∷ 0 ∷ 0 ∷ 7 ∷ replicate 21 0 }
unfolding first_registers
first_registers-31 = refl

pub first_registers-32 : length (first_registers 31 0 0).x ≡ 32
unfolding first_registers
first_registers-32 = refl

-- a thread that waits, with a view of one byte
abbrev pub sleeper : Hart
sleeper = record { view = (1 ∷ []) ∷ []; regs = first_registers 1 0x10008 5; number = 3; status = Blocked }

-- a thread that is ready
abbrev pub small_hart : Hart
small_hart = first_hart ((1 ∷ []) ∷ []) 0 0x10000 0

-- A woken thread has 0 in a0, the value that it gets in a1, the pc after its ECALL, and shared memory as its view.
pub woken-registers :
    woken ((2 ∷ []) ∷ []) (Some 9) (1 ∷ []) (small_hart ∷ sleeper ∷ []) ≡ small_hart
    ∷ record {
      view = (2 ∷ []) ∷ [];
      regs = record
          { pc = 0x1000C; x = 0 ∷ 0 ∷ 0xD0020000 ∷ 0 ∷ 1 ∷ 0 ∷ 0 ∷ 0 ∷ 0 ∷ 0 ∷ 0 ∷ 9 ∷ replicate 20 0 };
      number = 3;
      status = Ready;
    } ∷ []
unfolding first_registers with_register
woken-registers = refl

-- Without a value it keeps its a1.
pub woken-keeps_a1 :
    woken ((2 ∷ []) ∷ []) None (0 ∷ []) (record sleeper { regs = first_registers 0 0x10008 5 } ∷ [])
    ≡ record { view = (2 ∷ []) ∷ []; regs = first_registers 0 0x1000C 0; number = 3; status = Ready } ∷ []
unfolding first_registers with_register
woken-keeps_a1 = refl

-- A thread that blocks keeps its view and its registers, whatever shared memory is then.
pub blocked-keeps_its_view :
    fated Blocks ((2 ∷ []) ∷ []) small_hart
    ≡ record { view = (1 ∷ []) ∷ []; regs = first_registers 0 0x10000 0; number = 0; status = Blocked }
blocked-keeps_its_view = refl

-- Main joins before the thread ends and waits: it is woken with the value in a1, and its view has the store: 7 + 256 *
-- 51.
pub joined-waits : outcome (scratch_from (begins 9 9 joined) (0 ∷ 0 ∷ 1 ∷ 0 ∷ [])) ≡ (Some (Exit 13063), 4, [])
unfolding step finished thunk turn fetched number_at number_in permission_at decoded reading_of u_immediate i_immediate
    s_immediate immediate_result shift_result register_result with_register is_readable put_addresses loaded may_store
    bytes_stored with_byte first_registers all_unlocked choice
joined-waits = refl

-- Main joins after the thread has ended: the same.
pub joined-at_once : outcome (scratch_from (begins 9 9 joined) (0 ∷ 1 ∷ 0 ∷ 0 ∷ [])) ≡ (Some (Exit 13063), 4, [])
unfolding step finished thunk turn fetched number_at number_in permission_at decoded reading_of u_immediate i_immediate
    s_immediate immediate_result shift_result register_result with_register is_readable put_addresses loaded may_store
    bytes_stored with_byte first_registers all_unlocked choice
joined-at_once = refl

-- While main waits, no entry of it is permitted.
pub joined-blocked : is_permitted_from (begins 9 9 joined) (0 ∷ 0 ∷ 0 ∷ []) ≡ false
unfolding step finished thunk turn fetched number_at number_in permission_at decoded reading_of u_immediate i_immediate
    s_immediate immediate_result shift_result register_result with_register is_readable put_addresses loaded may_store
    bytes_stored with_byte first_registers all_unlocked choice
joined-blocked = refl

-- While main waits, its view stays as it was, though a later step has stored to memory.
pub joined-view : (hart_of (scratch_from (begins 9 9 joined) (0 ∷ 0 ∷ [])) 0).view ≡ joined
unfolding step finished thunk turn fetched number_at number_in permission_at decoded reading_of u_immediate i_immediate
    s_immediate immediate_result shift_result register_result with_register is_readable put_addresses loaded may_store
    bytes_stored with_byte first_registers all_unlocked choice
joined-view = refl

-- If all threads have ended, the run ends with code 0, also if the step is the last that the limit allows.
pub leave-exits : outcome (run 9 1 leave) ≡ (Some (Exit 0), 1, [])
unfolding step finished thunk turn fetched number_at number_in permission_at decoded reading_of u_immediate i_immediate
    s_immediate immediate_result shift_result register_result with_register is_readable put_addresses loaded may_store
    bytes_stored with_byte first_registers all_unlocked choice
leave-exits = refl

-- A deadlock at the last step that the limit allows is a deadlock.
pub cross-limit : outcome (run 9 5 cross) ≡ (Some Deadlock, 5, [])
unfolding step finished thunk turn fetched number_at number_in permission_at decoded reading_of u_immediate i_immediate
    s_immediate immediate_result shift_result register_result with_register is_readable put_addresses loaded may_store
    bytes_stored with_byte first_registers all_unlocked choice
cross-limit = refl

-- With one step less it is spent.
pub cross-limit_4 : outcome (run 9 4 cross) ≡ (Some Spent, 4, [])
unfolding step finished thunk turn fetched number_at number_in permission_at decoded reading_of u_immediate i_immediate
    s_immediate immediate_result shift_result register_result with_register is_readable put_addresses loaded may_store
    bytes_stored with_byte first_registers all_unlocked choice
cross-limit_4 = refl

-- A trap at the last step that the limit allows is a trap.
pub trap-limit : outcome (run 9 1 small.trap) ≡ (Some (Trap 0 0x1000C LoadMisaligned), 1, [])
unfolding step finished thunk turn fetched number_at number_in permission_at decoded reading_of u_immediate i_immediate
    s_immediate immediate_result shift_result register_result with_register is_readable put_addresses loaded may_store
    bytes_stored with_byte first_registers all_unlocked choice
trap-limit = refl

pub bad-limit : outcome (run 9 1 bad) ≡ (Some (Trap 0 0x10004 BadCall), 1, [])
unfolding step finished thunk turn fetched number_at number_in permission_at decoded reading_of u_immediate i_immediate
    s_immediate immediate_result shift_result register_result with_register is_readable put_addresses loaded may_store
    bytes_stored with_byte first_registers all_unlocked choice
bad-limit = refl

-- a record of thread 0 at its start, with no read pages, whose thunk called in its ninth turn
abbrev pub sample : Record
sample =
    record {
      thread = 0;
      number = 0;
      start = first_registers 0 0x10000 0;
      kept = record { reads = []; delta = []; finish = first_registers 0 0x10000 0; end = thunk_end.Call; count = 9 };
    }

-- a machine of these threads
abbrev pub with_harts : List Hart → Machine
with_harts harts = record (begins 9 9 leave) { harts = harts }

-- a thread with a number of steps and a status
abbrev pub at : ℕ → Status → Hart
at number status = record small_hart { number = number; status = status }

-- A record fits a thread that is ready, and no other.
pub fits-ready : fits (with_harts (at 0 Ready ∷ [])) sample ≡ true
unfolding fits fits_at may_end first_registers
fits-ready = refl

pub fits-blocked : fits (with_harts (at 0 Blocked ∷ [])) sample ≡ false
unfolding fits fits_at may_end first_registers
fits-blocked = refl

pub fits-ended : fits (with_harts (at 0 (Ended 0) ∷ [])) sample ≡ false
unfolding fits fits_at may_end first_registers
fits-ended = refl

pub fits-nobody : fits (with_harts []) sample ≡ false
unfolding fits fits_at may_end first_registers
fits-nobody = refl

-- a machine of one ready thread, with this fuel
abbrev pub with_fuel : ℕ → Machine
with_fuel fuel = record (begins fuel 9 leave) { harts = at 0 Ready ∷ [] }

-- It fits if its count is no more than the machine's fuel.
pub fits-more_fuel : fits (with_fuel 10) sample ≡ true
unfolding fits fits_at may_end first_registers
fits-more_fuel = refl

pub fits-count_above : fits (with_fuel 8) sample ≡ false
unfolding fits fits_at may_end first_registers
fits-count_above = refl

-- the same record, of a thunk that the fuel ended
abbrev pub out_of_fuel : Record
out_of_fuel = record sample { kept = record sample.kept { end = thunk_end.Fuel } }

-- It fits if its count is the machine's fuel.
pub fits-out_of_fuel : fits (with_fuel 9) out_of_fuel ≡ true
unfolding fits fits_at may_end first_registers
fits-out_of_fuel = refl

pub fits-count_below : fits (with_fuel 10) out_of_fuel ≡ false
unfolding fits fits_at may_end first_registers
fits-count_below = refl

-- The ready thread with the fewest steps is chosen, of two the lower one; a thread that waits or has ended isn't.
pub choice-fewest :
    choice (with_harts (at 2 Ready ∷ at 0 Blocked ∷ at 0 (Ended 0) ∷ at 1 Ready ∷ at 1 Ready ∷ [])) ≡ Some 3
unfolding choice
choice-fewest = refl

pub choice-nobody : choice (with_harts (at 0 Blocked ∷ at 0 (Ended 0) ∷ [])) ≡ None
unfolding choice
choice-nobody = refl

-- A put appends its bytes after those that are there.
pub hi-appends :
    (scratch_from (record (begins 9 9 small.hi) { output = 1 ∷ [] }) (0 ∷ [])).output ≡ 1 ∷ 0x68 ∷ 0x69 ∷ 0x0A ∷ []
unfolding step finished thunk turn fetched number_at number_in permission_at decoded reading_of u_immediate i_immediate
    s_immediate immediate_result shift_result register_result with_register is_readable put_addresses loaded may_store
    bytes_stored with_byte first_registers all_unlocked choice
hi-appends = refl
