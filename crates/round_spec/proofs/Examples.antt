-- Worked examples of events, each computed by the checker. Schedules, marks and counts were worked out by hand.
use Rattle.std.proofs.Common.{◌≡◌, true, false, [], ◌∷◌, replicate, Some, None, refl}
use Rattle.isa_spec.specs.Fields.{i_immediate, s_immediate, u_immediate}
use Rattle.isa_spec.specs.Registers.{with_register}
use Rattle.isa_spec.specs.Operations.{immediate_result, shift_result, register_result}
use Rattle.isa_spec.specs.Table.{decoded, reading_of}
use Rattle.memory_spec.specs.Pages.{permission_at, page_of}
use Rattle.memory_spec.specs.Stores.{with_byte}
use Rattle.memory_spec.specs.Access.{number_in, number_at, loaded, fetched, may_store, bytes_stored}
use Rattle.guest_call.specs.Objects.{all_unlocked}
use Rattle.thunk_spec.specs.Put.{is_readable, put_addresses}
use Rattle.thunk_spec.specs.Turn.{turn}
use Rattle.thunk_spec.specs.Thunk.{thunk}
use Rattle.thunk_spec.specs.Reads.{reads_of}
use Rattle.thunk_spec.specs.Record.{put_of, may_end, fits_at}
use Rattle.machine_spec.specs.declared.states.End.TheVariants.{Exit}
use Rattle.machine_spec.specs.Machine.{Machine}
use Rattle.machine_spec.specs.Performing.{first_registers}
use Rattle.machine_spec.specs.Step.{step, finished, apply, fits}
use Rattle.machine_spec.proofs.Guests.{begins, late}
use Rattle.history_spec.specs.History.{applied_from, can_apply_from}
use Rattle.round_spec.specs.declared.events.Event.TheVariants.{Take, Reuse, Commit, GiveBack, Stop}
use Rattle.round_spec.specs.Marks.{marked_from}
use Rattle.round_spec.specs.Rounds.{RoundState, none_in_flight, nothing_taken, happens, all_happen}
use Rattle.round_spec.proofs.Samples.{past_of, starts, recorded, reuses, executes, seen, forgets}

-- main has created thread 1, and both are ready
abbrev pub both : Machine
both = step (begins 9 9 late) 0

-- a round of main and a thread, based on main's first record and on the thread's first
abbrev pub goes_by : RoundState
goes_by =
    starts (begins 9 9 late) (past_of
    (recorded (begins 9 9 late) 0 [] ∷ recorded both 1
    (record { slot = 1; mask = true ∷ []; bytes = 51 ∷ [] } ∷ []) ∷ []))

-- Nothing has happened: main's record fits, and is reused, and not taken.
pub reuse-fits : seen (all_happen goes_by (Take 0 ∷ Reuse 0 ∷ [])) ≡ (reuses 0 ∷ [], [], 0, false)
unfolding step finished apply fits fits_at may_end put_of reads_of happens none_in_flight thunk turn fetched number_at
    number_in permission_at decoded reading_of u_immediate i_immediate s_immediate immediate_result shift_result
    register_result with_register is_readable put_addresses loaded may_store bytes_stored with_byte first_registers
    all_unlocked
reuse-fits = refl

-- Each condition fails once: main's record fits; thread 1 doesn't exist; no thread is in flight.
pub fail-start : seen (all_happen goes_by (Take 0 ∷ Reuse 1 ∷ Take 1 ∷ Commit 0 ∷ GiveBack 0 ∷ [])) ≡ ([], [], 0, false)
unfolding step finished apply fits fits_at may_end put_of reads_of happens none_in_flight thunk turn fetched number_at
    number_in permission_at decoded reading_of u_immediate i_immediate s_immediate immediate_result shift_result
    register_result with_register is_readable put_addresses loaded may_store bytes_stored with_byte first_registers
    all_unlocked
fail-start = refl

-- Main has no second record, so it is taken and not reused; while it is in flight it is neither taken nor reused; and
-- it is committed once.
pub fail-later :
    seen (all_happen goes_by (Reuse 0 ∷ Reuse 0 ∷ Take 0 ∷ Take 0 ∷ Reuse 0 ∷ Commit 0 ∷ Commit 0 ∷ GiveBack 0 ∷ []))
    ≡ (reuses 0 ∷ executes 0 ∷ [], [], 0, false)
unfolding step finished apply fits fits_at may_end put_of reads_of happens none_in_flight thunk turn fetched number_at
    number_in permission_at decoded reading_of u_immediate i_immediate s_immediate immediate_result shift_result
    register_result with_register is_readable put_addresses loaded may_store bytes_stored with_byte first_registers
    all_unlocked
fail-later = refl

-- The thread's record fits: it is reused while main is in flight.
pub reuse-beside :
    seen (all_happen goes_by (Reuse 0 ∷ Take 0 ∷ Take 1 ∷ Reuse 1 ∷ [])) ≡ (reuses 0 ∷ reuses 1 ∷ [], 0 ∷ [], 0, false)
unfolding step finished apply fits fits_at may_end put_of reads_of happens none_in_flight thunk turn fetched number_at
    number_in permission_at decoded reading_of u_immediate i_immediate s_immediate immediate_result shift_result
    register_result with_register is_readable put_addresses loaded may_store bytes_stored with_byte first_registers
    all_unlocked
reuse-beside = refl

-- An entry is kept with the length of the schedule when its thread was picked: a reused one with its own place, and one
-- that was taken with the length when it was taken, though another came in between.
pub points-beside :
    (all_happen goes_by (Reuse 0 ∷ Take 0 ∷ Reuse 1 ∷ Commit 0 ∷ [])).picked ≡ 0 ∷ 1 ∷ 1 ∷ []
unfolding step finished apply fits fits_at may_end put_of reads_of happens none_in_flight nothing_taken thunk turn fetched
    number_at number_in permission_at decoded reading_of u_immediate i_immediate s_immediate immediate_result
    shift_result register_result with_register is_readable put_addresses loaded may_store bytes_stored with_byte
    first_registers all_unlocked
points-beside = refl

-- A step that was given back and taken again was picked when it was taken again; then no thread's length is kept.
pub points-again :
    (all_happen goes_by (Reuse 0 ∷ Take 0 ∷ Reuse 1 ∷ GiveBack 0 ∷ Take 0 ∷ Commit 0 ∷ [])).picked ≡ 0 ∷ 1 ∷ 2 ∷ []
unfolding step finished apply fits fits_at may_end put_of reads_of happens none_in_flight nothing_taken thunk turn fetched
    number_at number_in permission_at decoded reading_of u_immediate i_immediate s_immediate immediate_result
    shift_result register_result with_register is_readable put_addresses loaded may_store bytes_stored with_byte
    first_registers all_unlocked
points-again = refl

pub points-in_flight :
    (all_happen goes_by (Reuse 0 ∷ Take 0 ∷ Reuse 1 ∷ [])).taken_at ≡ 1 ∷ replicate 31 0
unfolding step finished apply fits fits_at may_end put_of reads_of happens none_in_flight nothing_taken thunk turn fetched
    number_at number_in permission_at decoded reading_of u_immediate i_immediate s_immediate immediate_result
    shift_result register_result with_register is_readable put_addresses loaded may_store bytes_stored with_byte
    first_registers all_unlocked
points-in_flight = refl

pub points-none :
    (all_happen goes_by (Reuse 0 ∷ Take 0 ∷ Reuse 1 ∷ Commit 0 ∷ [])).taken_at ≡ nothing_taken
unfolding step finished apply fits fits_at may_end put_of reads_of happens none_in_flight nothing_taken thunk turn fetched
    number_at number_in permission_at decoded reading_of u_immediate i_immediate s_immediate immediate_result
    shift_result register_result with_register is_readable put_addresses loaded may_store bytes_stored with_byte
    first_registers all_unlocked
points-none = refl

-- A stopped round takes and reuses nothing.
pub fail-stopped : seen (all_happen goes_by (Stop ∷ Take 0 ∷ Reuse 0 ∷ [])) ≡ ([], [], 0, true)
unfolding step finished apply fits fits_at may_end put_of reads_of happens none_in_flight thunk turn fetched number_at
    number_in permission_at decoded reading_of u_immediate i_immediate s_immediate immediate_result shift_result
    register_result with_register is_readable put_addresses loaded may_store bytes_stored with_byte first_registers
    all_unlocked
fail-stopped = refl

-- Without a history, the record of neither is reused, and both can be in flight at once.
pub no-history :
    seen (all_happen (starts (begins 9 9 late) None) (Reuse 0 ∷ Take 0 ∷ Commit 0 ∷ Take 0 ∷ Take 1 ∷ []))
    ≡ (executes 0 ∷ [], 0 ∷ 1 ∷ [], 0, false)
unfolding step finished apply fits fits_at may_end put_of reads_of happens none_in_flight thunk turn fetched number_at
    number_in permission_at decoded reading_of u_immediate i_immediate s_immediate immediate_result shift_result
    register_result with_register is_readable put_addresses loaded may_store bytes_stored with_byte first_registers
    all_unlocked
no-history = refl

-- A step that is given back is discarded, and can be taken again.
pub given-back :
    seen (all_happen goes_by (Reuse 0 ∷ Take 0 ∷ GiveBack 0 ∷ Take 0 ∷ [])) ≡ (reuses 0 ∷ [], 0 ∷ [], 1, false)
unfolding step finished apply fits fits_at may_end put_of reads_of happens none_in_flight thunk turn fetched number_at
    number_in permission_at decoded reading_of u_immediate i_immediate s_immediate immediate_result shift_result
    register_result with_register is_readable put_addresses loaded may_store bytes_stored with_byte first_registers
    all_unlocked
given-back = refl

-- A commit after the round was stopped is discarded.
pub discarded-stopped :
    seen (all_happen goes_by (Reuse 0 ∷ Take 0 ∷ Stop ∷ Commit 0 ∷ [])) ≡ (reuses 0 ∷ [], [], 1, true)
unfolding step finished apply fits fits_at may_end put_of reads_of happens none_in_flight thunk turn fetched number_at
    number_in permission_at decoded reading_of u_immediate i_immediate s_immediate immediate_result shift_result
    register_result with_register is_readable put_addresses loaded may_store bytes_stored with_byte first_registers
    all_unlocked
discarded-stopped = refl

-- A commit after the machine's end is discarded: main has exited while thread 1 was in flight.
pub discarded-ended :
    seen (all_happen (starts (begins 9 9 late) None)
    (Take 0 ∷ Commit 0 ∷ Take 1 ∷ Take 0 ∷ Commit 0 ∷ Take 0 ∷ Commit 0 ∷ Commit 1 ∷ Take 1 ∷ Reuse 1 ∷ []))
    ≡ (executes 0 ∷ executes 0 ∷ executes 0 ∷ [], [], 1, false)
unfolding step finished apply fits fits_at may_end put_of reads_of happens none_in_flight thunk turn fetched number_at
    number_in permission_at decoded reading_of u_immediate i_immediate s_immediate immediate_result shift_result
    register_result with_register is_readable put_addresses loaded may_store bytes_stored with_byte first_registers
    all_unlocked
discarded-ended = refl

-- A count of discarded steps of 2 ^ 64 - 1 stays.
pub discarded-most :
    (all_happen (record goes_by { discarded = 18446744073709551615 }) (Reuse 0 ∷ Take 0 ∷ GiveBack 0 ∷ [])).discarded
    ≡ 18446744073709551615
unfolding step finished apply fits fits_at may_end put_of reads_of happens none_in_flight thunk turn fetched number_at
    number_in permission_at decoded reading_of u_immediate i_immediate s_immediate immediate_result shift_result
    register_result with_register is_readable put_addresses loaded may_store bytes_stored with_byte first_registers
    all_unlocked
discarded-most = refl

-- A count that is one less rises to it.
pub discarded-one_less :
    (all_happen (record goes_by { discarded = 18446744073709551614 })
    (Reuse 0 ∷ Take 0 ∷ Stop ∷ Commit 0 ∷ [])).discarded ≡ 18446744073709551615
unfolding step finished apply fits fits_at may_end put_of reads_of happens none_in_flight thunk turn fetched number_at
    number_in permission_at decoded reading_of u_immediate i_immediate s_immediate immediate_result shift_result
    register_result with_register is_readable put_addresses loaded may_store bytes_stored with_byte first_registers
    all_unlocked
discarded-one_less = refl

-- The machine after a reused step is the one after the step, and the thread that was in flight kept its view from
-- before the other's store: it loads 0, and then 51.
pub reuse-machine :
    (all_happen goes_by (Reuse 0 ∷ Take 0 ∷ Reuse 1 ∷ Commit 0 ∷ Take 0 ∷ Commit 0 ∷ [])).machine.ending
    ≡ Some (Exit 51)
unfolding step finished apply fits fits_at may_end put_of reads_of happens none_in_flight thunk turn fetched number_at
    number_in permission_at decoded reading_of u_immediate i_immediate s_immediate immediate_result shift_result
    register_result with_register is_readable put_addresses loaded may_store bytes_stored with_byte first_registers
    all_unlocked
reuse-machine = refl

-- The store of an applied record is in shared memory.
pub reuse-memory : page_of (all_happen goes_by (Reuse 0 ∷ Reuse 1 ∷ [])).machine.memory 1 ≡ 51 ∷ 0 ∷ []
unfolding step finished apply fits fits_at may_end put_of reads_of happens none_in_flight thunk turn fetched number_at
    number_in permission_at decoded reading_of u_immediate i_immediate s_immediate immediate_result shift_result
    register_result with_register is_readable put_addresses loaded may_store bytes_stored with_byte first_registers
    all_unlocked
reuse-memory = refl

-- Main's first thunk calls in its fifth turn: its record is reused under a fuel of 5, and under one of 4 the thunk is
-- executed.
pub fuel-count :
    seen (all_happen (starts (begins 5 9 late) goes_by.past) (Reuse 0 ∷ Take 0 ∷ Commit 0 ∷ []))
    ≡ (reuses 0 ∷ executes 0 ∷ [], [], 0, false)
unfolding step finished apply fits fits_at may_end put_of reads_of happens none_in_flight thunk turn fetched number_at
    number_in permission_at decoded reading_of u_immediate i_immediate s_immediate immediate_result shift_result
    register_result with_register is_readable put_addresses loaded may_store bytes_stored with_byte first_registers
    all_unlocked
fuel-count = refl

pub fuel-below_count :
    seen (all_happen (starts (begins 4 9 late) goes_by.past) (Reuse 0 ∷ Take 0 ∷ Commit 0 ∷ []))
    ≡ (executes 0 ∷ [], [], 0, false)
unfolding step finished apply fits fits_at may_end put_of reads_of happens none_in_flight thunk turn fetched number_at
    number_in permission_at decoded reading_of u_immediate i_immediate s_immediate immediate_result shift_result
    register_result with_register is_readable put_addresses loaded may_store bytes_stored with_byte first_registers
    all_unlocked
fuel-below_count = refl

-- A record of it that a fuel of 4 ended is reused under this fuel, and under one of 5 its thunk is executed.
pub fuel-same :
    seen (all_happen (starts (begins 4 9 late) (past_of (recorded (begins 4 9 late) 0 [] ∷ [])))
    (Reuse 0 ∷ Take 0 ∷ Commit 0 ∷ [])) ≡ (reuses 0 ∷ [], [], 0, false)
unfolding step finished apply fits fits_at may_end put_of reads_of happens none_in_flight thunk turn fetched number_at
    number_in permission_at decoded reading_of u_immediate i_immediate s_immediate immediate_result shift_result
    register_result with_register is_readable put_addresses loaded may_store bytes_stored with_byte first_registers
    all_unlocked
fuel-same = refl

pub fuel-larger :
    seen (all_happen (starts (begins 5 9 late) (past_of (recorded (begins 4 9 late) 0 [] ∷ [])))
    (Reuse 0 ∷ Take 0 ∷ Commit 0 ∷ [])) ≡ (executes 0 ∷ [], [], 0, false)
unfolding step finished apply fits fits_at may_end put_of reads_of happens none_in_flight thunk turn fetched number_at
    number_in permission_at decoded reading_of u_immediate i_immediate s_immediate immediate_result shift_result
    register_result with_register is_readable put_addresses loaded may_store bytes_stored with_byte first_registers
    all_unlocked
fuel-larger = refl

-- After an edit of the byte that main loads, main's first step is executed, and its second, whose start registers are
-- the old ones, is reused.
pub fits-again :
    seen (all_happen (starts (begins 9 9 (forgets 7))
    (past_of (recorded (begins 9 9 (forgets 4)) 0 [] ∷ recorded (step (begins 9 9 (forgets 4)) 0) 0 [] ∷ [])))
    (Reuse 0 ∷ Take 0 ∷ Commit 0 ∷ Take 0 ∷ Reuse 0 ∷ [])) ≡ (executes 0 ∷ reuses 0 ∷ [], [], 0, false)
unfolding step finished apply fits fits_at may_end put_of reads_of happens none_in_flight thunk turn fetched number_at
    number_in permission_at decoded reading_of u_immediate i_immediate s_immediate immediate_result shift_result
    register_result with_register is_readable put_addresses loaded may_store bytes_stored with_byte first_registers
    all_unlocked
fits-again = refl

-- So are the marks of the schedule.
pub fits-again_marks :
    marked_from (past_of (recorded (begins 9 9 (forgets 4)) 0 [] ∷ recorded (step (begins 9 9 (forgets 4)) 0) 0
    [] ∷ [])) (begins 9 9 (forgets 7)) (0 ∷ 0 ∷ []) ≡ executes 0 ∷ reuses 0 ∷ []
unfolding step finished apply fits fits_at may_end put_of reads_of happens none_in_flight thunk turn fetched number_at
    number_in permission_at decoded reading_of u_immediate i_immediate s_immediate immediate_result shift_result
    register_result with_register is_readable put_addresses loaded may_store bytes_stored with_byte first_registers
    all_unlocked
fits-again_marks = refl

-- The records of both steps, applied in order, fit.
pub coherent-records :
    can_apply_from (begins 9 9 (forgets 4))
    (recorded (begins 9 9 (forgets 4)) 0 [] ∷ recorded (step (begins 9 9 (forgets 4)) 0) 0 [] ∷ []) ≡ true
unfolding step finished apply fits fits_at may_end put_of reads_of happens none_in_flight thunk turn fetched number_at
    number_in permission_at decoded reading_of u_immediate i_immediate s_immediate immediate_result shift_result
    register_result with_register is_readable put_addresses loaded may_store bytes_stored with_byte first_registers
    all_unlocked
coherent-records = refl

-- They lead to the end.
pub coherent-end :
    (applied_from (begins 9 9 (forgets 4))
    (recorded (begins 9 9 (forgets 4)) 0 [] ∷ recorded (step (begins 9 9 (forgets 4)) 0) 0 [] ∷ [])).ending
    ≡ Some (Exit 3)
unfolding step finished apply fits fits_at may_end put_of reads_of happens none_in_flight thunk turn fetched number_at
    number_in permission_at decoded reading_of u_immediate i_immediate s_immediate immediate_result shift_result
    register_result with_register is_readable put_addresses loaded may_store bytes_stored with_byte first_registers
    all_unlocked
coherent-end = refl

-- A record isn't applied twice, nor in another's place.
pub coherent-twice :
    can_apply_from (begins 9 9 (forgets 4))
    (recorded (begins 9 9 (forgets 4)) 0 [] ∷ recorded (begins 9 9 (forgets 4)) 0 [] ∷ []) ≡ false
unfolding step finished apply fits fits_at may_end put_of reads_of happens none_in_flight thunk turn fetched number_at
    number_in permission_at decoded reading_of u_immediate i_immediate s_immediate immediate_result shift_result
    register_result with_register is_readable put_addresses loaded may_store bytes_stored with_byte first_registers
    all_unlocked
coherent-twice = refl

-- No record is applied after an end.
pub coherent-after_end :
    can_apply_from (begins 9 1 (forgets 4))
    (recorded (begins 9 9 (forgets 4)) 0 [] ∷ recorded (step (begins 9 9 (forgets 4)) 0) 0 [] ∷ []) ≡ false
unfolding step finished apply fits fits_at may_end put_of reads_of happens none_in_flight thunk turn fetched number_at
    number_in permission_at decoded reading_of u_immediate i_immediate s_immediate immediate_result shift_result
    register_result with_register is_readable put_addresses loaded may_store bytes_stored with_byte first_registers
    all_unlocked
coherent-after_end = refl
