-- Worked examples of what is due, of the choice and of picking, each computed by the checker. The answers were worked
-- out by hand.
use Rattle.std.proofs.Common.{◌≡◌, ℕ, Bool, true, false, List, [], ◌∷◌, map, set, Option, Some, None, refl}
use Rattle.isa_spec.specs.Fields.{i_immediate, s_immediate, u_immediate}
use Rattle.isa_spec.specs.Registers.{Registers, with_register}
use Rattle.isa_spec.specs.Operations.{immediate_result, shift_result, register_result}
use Rattle.isa_spec.specs.Table.{decoded, reading_of}
use Rattle.memory_spec.specs.Pages.{permission_at}
use Rattle.memory_spec.specs.Stores.{with_byte}
use Rattle.memory_spec.specs.Access.{number_in, number_at, loaded, fetched, may_store, bytes_stored}
use Rattle.guest_call.specs.Objects.{all_unlocked}
use Rattle.elf_spec.specs.Fields.{u32_at}
use Rattle.elf_spec.specs.Image.{entry_of}
use Rattle.thunk_spec.specs.declared.ends.ThunkEnd.TheVariants.{Call}
use Rattle.thunk_spec.specs.Put.{is_readable, put_addresses}
use Rattle.thunk_spec.specs.Turn.{turn}
use Rattle.thunk_spec.specs.Thunk.{thunk}
use Rattle.thunk_spec.specs.Record.{Record, may_end, fits_at}
use Rattle.machine_spec.specs.declared.states.Status.{Status}
use Rattle.machine_spec.specs.declared.states.Status.TheVariants.{Ready, Blocked, Ended}
use Rattle.machine_spec.specs.declared.states.End.TheVariants.{Exit}
use Rattle.machine_spec.specs.Machine.{Machine, Hart}
use Rattle.machine_spec.specs.Performing.{first_registers}
use Rattle.machine_spec.specs.Setup.{first}
use Rattle.machine_spec.specs.Step.{step, finished, fits}
use Rattle.machine_spec.proofs.Guests.{begins, late}
use Rattle.history_spec.specs.History.{History}
use Rattle.round_spec.specs.declared.events.Pick.TheVariants as pick
use Rattle.round_spec.specs.Rounds.{none_in_flight, happens}
use Rattle.round_spec.specs.Due.{is_due}
use Rattle.round_spec.specs.Choice.{free_threads, least_by, best, choice_by, pick_of}
use Rattle.round_spec.specs.Alone.{guided_from, after_picks}
use Rattle.round_spec.specs.Picking.{is_picked_on}
use Rattle.round_spec.proofs.Samples.{past_of, starts, executes, seen}

abbrev at_pc : ℕ → Registers
at_pc pc = record { pc = pc; x = [] }

-- a hart that has made this number of steps, with its pc at 100
abbrev hart : ℕ → Status → Hart
hart number status = record { view = []; regs = at_pc 100; number = number; status = status }

abbrev of_harts : List Hart → Machine
of_harts harts = record (begins 9 9 late) { harts = harts }

-- a record with no read pages, which starts at a pc and writes the pages in some slots: at 100 it fits
abbrev writing_at : ℕ → List ℕ → ℕ → ℕ → Record
writing_at pc slots t number =
    record {
      thread = t;
      number = number;
      start = at_pc pc;
      kept = record {
        reads = [];
        delta = map (λ slot. record { slot = slot; mask = []; bytes = [] }) slots;
        finish = at_pc pc;
        end = Call;
        count = 1;
      };
    }

-- one that writes nothing, so that no step of another thread must come before it
abbrev starting_at : ℕ → ℕ → ℕ → Record
starting_at pc t number = writing_at pc [] t number

abbrev bare : ℕ → ℕ → Record
bare t number = starting_at 100 t number

-- one that writes a page, so that it must come after all before it that write the same
abbrev writing : ℕ → ℕ → ℕ → Record
writing slot t number = writing_at 100 (slot ∷ []) t number

-- thread 0 has made one step, threads 1 and 2 none
abbrev three : Machine
three = of_harts (hart 1 Ready ∷ hart 0 Ready ∷ hart 0 Ready ∷ [])

-- and they made them, and make the next, in this order: 0, 0, 2, 1; and each must come before the next
abbrev in_order : Option History
in_order = past_of (writing 0 0 0 ∷ writing 0 0 1 ∷ writing 0 2 0 ∷ writing 0 1 0 ∷ [])

-- the same if thread 2 writes another page
abbrev apart : Option History
apart = past_of (writing 0 0 0 ∷ writing 0 0 1 ∷ writing 1 2 0 ∷ writing 0 1 0 ∷ [])

-- a step of thread 3, which doesn't exist, must come before the next of all
abbrev after_3 : Option History
after_3 = past_of (writing 0 0 0 ∷ writing 0 3 0 ∷ writing 0 2 0 ∷ writing 0 1 0 ∷ writing 0 0 1 ∷ [])

-- the same threads, and a thread 3 that has ended without a step
abbrev with_ended : Machine
with_ended = of_harts (hart 1 Ready ∷ hart 0 Ready ∷ hart 0 Ready ∷ hart 0 (Ended 7) ∷ [])

-- the flags of 32 threads with thread 0 in flight
abbrev zero_out : List Bool
zero_out = set none_in_flight 0 true

-- The earlier step of thread 0 has been made, so its next is due; the others wait for it.
pub due-in_order : map (is_due in_order three) (0 ∷ 1 ∷ 2 ∷ []) ≡ true ∷ false ∷ false ∷ []
unfolding none_in_flight is_due free_threads least_by best choice_by pick_of is_picked_on first first_registers entry_of
    u32_at fits fits_at may_end
due-in_order = refl

-- The choice is the due one; if that is in flight, none.
pub choice-in_order : choice_by in_order three none_in_flight ≡ Some 0
unfolding none_in_flight is_due free_threads least_by best choice_by pick_of is_picked_on first first_registers entry_of
    u32_at fits fits_at may_end
choice-in_order = refl

-- A due thread in flight isn't chosen again, and a thread that isn't due waits for it.
pub choice-waits : choice_by in_order three zero_out ≡ None
unfolding none_in_flight is_due free_threads least_by best choice_by pick_of is_picked_on first first_registers entry_of
    u32_at fits fits_at may_end
choice-waits = refl

-- A step that depends on none which is still to be made is due, though others come before it; and one that depends on
-- the first through nothing but its page waits for it.
pub due-apart : map (is_due apart three) (0 ∷ 1 ∷ 2 ∷ []) ≡ true ∷ false ∷ true ∷ []
unfolding none_in_flight is_due free_threads least_by best choice_by pick_of is_picked_on first first_registers entry_of
    u32_at fits fits_at may_end
due-apart = refl

-- Of those that are due, the one of the least place is chosen; if that is in flight, the other.
pub choice-apart : choice_by apart three none_in_flight ≡ Some 0
unfolding none_in_flight is_due free_threads least_by best choice_by pick_of is_picked_on first first_registers entry_of
    u32_at fits fits_at may_end
choice-apart = refl

pub choice-apart_out : choice_by apart three zero_out ≡ Some 2
unfolding none_in_flight is_due free_threads least_by best choice_by pick_of is_picked_on first first_registers entry_of
    u32_at fits fits_at may_end
choice-apart_out = refl

-- One that isn't of the least place is chosen by the rule all the same.
pub picked-apart : is_picked_on apart three 2 0 ≡ true
unfolding none_in_flight is_due free_threads least_by best choice_by pick_of is_picked_on first first_registers entry_of
    u32_at fits fits_at may_end
picked-apart = refl

-- A step that must come before through another one is waited for, also if that one's thread has exited: thread 1's step
-- writes a page that thread 2's writes, and that another which thread 0's writes.
pub due-through :
    map
    (is_due (past_of (writing 0 0 0 ∷ writing 0 0 1 ∷ writing_at 100 (0 ∷ 1 ∷ []) 2 0 ∷ writing 1 1 0 ∷ []))
    (of_harts (hart 1 Ready ∷ hart 0 Ready ∷ hart 0 (Ended 7) ∷ []))) (0 ∷ 1 ∷ []) ≡ true ∷ false ∷ []
unfolding none_in_flight is_due free_threads least_by best choice_by pick_of is_picked_on first first_registers entry_of
    u32_at fits fits_at may_end
due-through = refl

-- A thread that doesn't exist hasn't exited: all wait for its step.
pub due-absent : map (is_due after_3 three) (0 ∷ 1 ∷ 2 ∷ []) ≡ false ∷ false ∷ false ∷ []
unfolding none_in_flight is_due free_threads least_by best choice_by pick_of is_picked_on first first_registers entry_of
    u32_at fits fits_at may_end
due-absent = refl

-- If no thread is due and none is in flight, the one of the least place is chosen all the same.
pub choice-absent : choice_by after_3 three none_in_flight ≡ Some 2
unfolding none_in_flight is_due free_threads least_by best choice_by pick_of is_picked_on first first_registers entry_of
    u32_at fits fits_at may_end
choice-absent = refl

-- With a thread in flight, there is then no choice.
pub choice-absent_out : choice_by after_3 three zero_out ≡ None
unfolding none_in_flight is_due free_threads least_by best choice_by pick_of is_picked_on first first_registers entry_of
    u32_at fits fits_at may_end
choice-absent_out = refl

-- A thread that has exited isn't waited for.
pub due-ended : map (is_due after_3 with_ended) (0 ∷ 1 ∷ 2 ∷ []) ≡ false ∷ false ∷ true ∷ []
unfolding none_in_flight is_due free_threads least_by best choice_by pick_of is_picked_on first first_registers entry_of
    u32_at fits fits_at may_end
due-ended = refl

-- So thread 2 is chosen, also while thread 0 is in flight.
pub choice-ended : choice_by after_3 with_ended zero_out ≡ Some 2
unfolding none_in_flight is_due free_threads least_by best choice_by pick_of is_picked_on first first_registers entry_of
    u32_at fits fits_at may_end
choice-ended = refl

-- A thread with a place comes before one without, even if it has made more steps.
pub choice-placed : choice_by (past_of (bare 0 0 ∷ bare 0 1 ∷ [])) three none_in_flight ≡ Some 0
unfolding none_in_flight is_due free_threads least_by best choice_by pick_of is_picked_on first first_registers entry_of
    u32_at fits fits_at may_end
choice-placed = refl

-- A thread without a record is due, and is chosen before one that has to wait.
pub choice-unplaced :
    choice_by (past_of (writing 0 0 0 ∷ writing 0 3 0 ∷ writing 0 0 1 ∷ []))
    (of_harts (hart 1 Ready ∷ hart 5 Ready ∷ [])) none_in_flight ≡ Some 1
unfolding none_in_flight is_due free_threads least_by best choice_by pick_of is_picked_on first first_registers entry_of
    u32_at fits fits_at may_end
choice-unplaced = refl

-- With no places the fewest steps decide, and then the lowest number.
pub choice-fewest : choice_by None (of_harts (hart 2 Ready ∷ hart 1 Ready ∷ hart 1 Ready ∷ [])) none_in_flight ≡ Some 1
unfolding none_in_flight is_due free_threads least_by best choice_by pick_of is_picked_on first first_registers entry_of
    u32_at fits fits_at may_end
choice-fewest = refl

-- A thread that waits in a queue, or has ended, isn't chosen.
pub choice-ready : choice_by None (of_harts (hart 0 Blocked ∷ hart 0 (Ended 0) ∷ hart 3 Ready ∷ [])) none_in_flight ≡ Some 2
unfolding none_in_flight is_due free_threads least_by best choice_by pick_of is_picked_on first first_registers entry_of
    u32_at fits fits_at may_end
choice-ready = refl

-- A record at another number of steps gives no place.
pub choice-number : choice_by (past_of (bare 0 7 ∷ [])) three none_in_flight ≡ Some 1
unfolding none_in_flight is_due free_threads least_by best choice_by pick_of is_picked_on first first_registers entry_of
    u32_at fits fits_at may_end
choice-number = refl

-- A thread whose record fits reuses it.
pub pick-reuse : pick_of (starts three in_order) ≡ pick.Reuse 0
unfolding none_in_flight is_due free_threads least_by best choice_by pick_of is_picked_on first first_registers entry_of
    u32_at fits fits_at may_end
pick-reuse = refl

-- A thread whose record doesn't fit executes its step.
pub pick-run : pick_of (starts three (past_of (bare 0 0 ∷ starting_at 104 0 1 ∷ []))) ≡ pick.Run 0
unfolding none_in_flight is_due free_threads least_by best choice_by pick_of is_picked_on first first_registers entry_of
    u32_at fits fits_at may_end
pick-run = refl

-- A thread without a record executes its step.
pub pick-run_new : pick_of (starts three None) ≡ pick.Run 1
unfolding none_in_flight is_due free_threads least_by best choice_by pick_of is_picked_on first first_registers entry_of
    u32_at fits fits_at may_end
pick-run_new = refl

-- If all wait for one that is in flight, so does the worker.
pub pick-hold : pick_of (record (starts three in_order) { in_flight = zero_out }) ≡ pick.Hold
unfolding none_in_flight is_due free_threads least_by best choice_by pick_of is_picked_on first first_registers entry_of
    u32_at fits fits_at may_end
pick-hold = refl

-- A stopped round is finished, also if a thread is in flight.
pub pick-stopped : pick_of (record (starts three in_order) { in_flight = zero_out; stopped = true }) ≡ pick.Over
unfolding none_in_flight is_due free_threads least_by best choice_by pick_of is_picked_on first first_registers entry_of
    u32_at fits fits_at may_end
pick-stopped = refl

-- So is one whose machine has an end.
pub pick-ended : pick_of (starts (record three { ending = Some (Exit 0) }) in_order) ≡ pick.Over
unfolding none_in_flight is_due free_threads least_by best choice_by pick_of is_picked_on first first_registers entry_of
    u32_at fits fits_at may_end
pick-ended = refl

-- One worker that follows the order 0, 0, 1, 0 makes these steps, though none waits for another thread's, and exits.
pub guided-late :
    guided_from (past_of (bare 0 0 ∷ bare 0 1 ∷ bare 1 0 ∷ bare 0 2 ∷ [])) 9 (begins 9 9 late) ≡ 0 ∷ 0 ∷ 1 ∷ 0 ∷ []
unfolding none_in_flight is_due free_threads least_by best choice_by pick_of is_picked_on first first_registers entry_of
    u32_at fits fits_at may_end step finished thunk turn fetched number_at number_in permission_at decoded reading_of
    u_immediate i_immediate s_immediate immediate_result shift_result register_result with_register is_readable
    put_addresses loaded may_store bytes_stored with_byte all_unlocked
guided-late = refl

-- Without a history, main and the thread alternate.
pub guided-alone : guided_from None 9 (begins 9 9 late) ≡ 0 ∷ 1 ∷ 0 ∷ 1 ∷ 0 ∷ []
unfolding none_in_flight is_due free_threads least_by best choice_by pick_of is_picked_on first first_registers entry_of
    u32_at fits fits_at may_end step finished thunk turn fetched number_at number_in permission_at decoded reading_of
    u_immediate i_immediate s_immediate immediate_result shift_result register_result with_register is_readable
    put_addresses loaded may_store bytes_stored with_byte all_unlocked
guided-alone = refl

-- A thread that is ready, at that number, and due is chosen by the rule.
pub picked-due : is_picked_on in_order three 0 1 ≡ true
unfolding none_in_flight is_due free_threads least_by best choice_by pick_of is_picked_on first first_registers entry_of
    u32_at fits fits_at may_end
picked-due = refl

-- Not at another number.
pub picked-number : is_picked_on in_order three 0 0 ≡ false
unfolding none_in_flight is_due free_threads least_by best choice_by pick_of is_picked_on first first_registers entry_of
    u32_at fits fits_at may_end
picked-number = refl

-- Not while another thread is due.
pub picked-not_due : is_picked_on in_order three 2 0 ≡ false
unfolding none_in_flight is_due free_threads least_by best choice_by pick_of is_picked_on first first_registers entry_of
    u32_at fits fits_at may_end
picked-not_due = refl

-- If no thread is due, any may be.
pub picked-nobody_due : is_picked_on after_3 three 1 0 ≡ true
unfolding none_in_flight is_due free_threads least_by best choice_by pick_of is_picked_on first first_registers entry_of
    u32_at fits fits_at may_end
picked-nobody_due = refl

-- A thread that isn't ready may not be.
pub picked-not_ready : is_picked_on None (of_harts (hart 0 Blocked ∷ hart 3 Ready ∷ [])) 0 0 ≡ false
unfolding none_in_flight is_due free_threads least_by best choice_by pick_of is_picked_on first first_registers entry_of
    u32_at fits fits_at may_end
picked-not_ready = refl

-- Nor may one without a record, while a due thread has one that fits.
pub picked-unplaced : is_picked_on (past_of (bare 0 0 ∷ bare 0 1 ∷ [])) three 1 0 ≡ false
unfolding none_in_flight is_due free_threads least_by best choice_by pick_of is_picked_on first first_registers entry_of
    u32_at fits fits_at may_end
picked-unplaced = refl

-- If that record doesn't fit, it may be.
pub picked-unplaced_unfit : is_picked_on (past_of (bare 0 0 ∷ starting_at 104 0 1 ∷ [])) three 1 0 ≡ true
unfolding none_in_flight is_due free_threads least_by best choice_by pick_of is_picked_on first first_registers entry_of
    u32_at fits fits_at may_end
picked-unplaced_unfit = refl

-- One worker executes every step if records give places but don't fit any more.
pub lone-late :
    seen (after_picks 9 (starts (begins 9 9 late) (past_of (bare 0 0 ∷ bare 0 1 ∷ bare 1 0 ∷ bare 0 2 ∷ []))))
    ≡ (executes 0 ∷ executes 0 ∷ executes 1 ∷ executes 0 ∷ [], [], 0, false)
unfolding none_in_flight is_due free_threads least_by best choice_by pick_of is_picked_on first first_registers entry_of
    u32_at fits fits_at may_end step finished thunk turn fetched number_at number_in permission_at decoded reading_of
    u_immediate i_immediate s_immediate immediate_result shift_result register_result with_register is_readable
    put_addresses loaded may_store bytes_stored with_byte all_unlocked happens
lone-late = refl
