-- Rounds by schedules with marks: schedules that can be made and ones that can't, and rounds that aren't where their
-- schedule leads. The events and what they make were worked out by hand.
use Rattle.std.proofs.Common.{◌≡◌, ℕ, suc, Bool, true, false, ◌&&◌, [], ◌∷◌, Option, None, refl, ap, sym, ◌∙◌, arith}
use Rattle.isa_spec.specs.Fields.{i_immediate, s_immediate, u_immediate}
use Rattle.isa_spec.specs.Registers.{with_register}
use Rattle.isa_spec.specs.Operations.{immediate_result, shift_result, register_result}
use Rattle.isa_spec.specs.Table.{decoded, reading_of}
use Rattle.memory_spec.specs.Pages.{permission_at}
use Rattle.memory_spec.specs.Stores.{with_byte}
use Rattle.memory_spec.specs.Access.{number_in, number_at, loaded, fetched, may_store, bytes_stored}
use Rattle.guest_call.specs.Objects.{all_unlocked}
use Rattle.thunk_spec.specs.Put.{is_readable, put_addresses}
use Rattle.thunk_spec.specs.Turn.{turn}
use Rattle.thunk_spec.specs.Thunk.{thunk}
use Rattle.thunk_spec.specs.Reads.{reads_of}
use Rattle.thunk_spec.specs.Record.{Record, put_of, may_end, fits_at}
use Rattle.machine_spec.specs.Machine.{Machine}
use Rattle.machine_spec.specs.Performing.{first_registers}
use Rattle.machine_spec.specs.Step.{step, finished, apply, fits}
use Rattle.machine_spec.specs.Setup.{Setup, first}
use Rattle.machine_spec.proofs.Guests.{begins, late}
use Rattle.history_spec.specs.History.{History}
use Rattle.round_spec.specs.declared.events.Event.TheVariants.{Take, Reuse, Commit}
use Rattle.round_spec.specs.Rounds.{RoundState, none_in_flight, opening, can_begin, happens, all_happen}
use Rattle.round_spec.specs.Schedules.{events_in, round_by, IsBySchedule}
use Rattle.round_spec.proofs.Conditions.{happens-reuse_not}
use Rattle.round_spec.proofs.Examples.{goes_by}
use Rattle.round_spec.proofs.Samples.{starts, reuses, executes, seen}

-- A reused entry is reused, and an executed one is taken and committed, in the schedule's order.
pub events-three :
    events_in (reuses 2 ∷ executes 1 ∷ reuses 1 ∷ [])
    ≡ Reuse 2 ∷ Take 1 ∷ Commit 1 ∷ Reuse 1 ∷ []
events-three = refl

-- Main's first record fits and its second step has none: so they can be made.
pub made-right :
    seen (all_happen goes_by (events_in (reuses 0 ∷ executes 0 ∷ []))) ≡ (reuses 0 ∷ executes 0 ∷ [], [], 0, false)
unfolding step finished apply fits fits_at may_end put_of reads_of happens none_in_flight thunk turn fetched number_at
    number_in permission_at decoded reading_of u_immediate i_immediate s_immediate immediate_result shift_result
    register_result with_register is_readable put_addresses loaded may_store bytes_stored with_byte first_registers
    all_unlocked
made-right = refl

-- A step whose record fits isn't executed: the round that is made has another schedule.
pub made-executes :
    seen (all_happen goes_by (events_in (executes 0 ∷ executes 0 ∷ []))) ≡ ([], [], 0, false)
unfolding step finished apply fits fits_at may_end put_of reads_of happens none_in_flight thunk turn fetched number_at
    number_in permission_at decoded reading_of u_immediate i_immediate s_immediate immediate_result shift_result
    register_result with_register is_readable put_addresses loaded may_store bytes_stored with_byte first_registers
    all_unlocked
made-executes = refl

-- A step without a record isn't reused, nor is there one of a thread that doesn't exist yet.
pub made-reuses :
    seen (all_happen goes_by (events_in (reuses 1 ∷ reuses 0 ∷ reuses 0 ∷ reuses 1 ∷ [])))
    ≡ (reuses 0 ∷ reuses 1 ∷ [], [], 0, false)
unfolding step finished apply fits fits_at may_end put_of reads_of happens none_in_flight thunk turn fetched number_at
    number_in permission_at decoded reading_of u_immediate i_immediate s_immediate immediate_result shift_result
    register_result with_register is_readable put_addresses loaded may_store bytes_stored with_byte first_registers
    all_unlocked
made-reuses = refl

-- Without a history, main's three steps lead to the end, and after it nothing is made.
pub made-ended :
    seen (all_happen (starts (begins 9 9 late) None)
    (events_in (executes 0 ∷ executes 0 ∷ executes 0 ∷ executes 1 ∷ [])))
    ≡ (executes 0 ∷ executes 0 ∷ executes 0 ∷ [], [], 0, false)
unfolding step finished apply fits fits_at may_end put_of reads_of happens none_in_flight thunk turn fetched number_at
    number_in permission_at decoded reading_of u_immediate i_immediate s_immediate immediate_result shift_result
    register_result with_register is_readable put_addresses loaded may_store bytes_stored with_byte first_registers
    all_unlocked
made-ended = refl

and-false : (b : Bool) → (b && false) ≡ false
and-false true = refl
and-false false = refl

-- Without a history, no mark of reuse holds, whatever the setup is.
pub by-nothing : (setup : Setup) (t : ℕ) → round_by setup None (reuses t ∷ []) ≡ opening setup None
by-nothing setup t = happens-reuse_not (opening setup None) t (and-false (can_begin (opening setup None) t))

-- So a round with such a schedule isn't where that leads,
pub another-mark : (setup : Setup) (t : ℕ) → IsBySchedule (record (opening setup None) { schedule = reuses t ∷ [] }) → ⊥
another-mark setup t is =
    let empty : [] ≡ reuses t ∷ [] = ap (λ (w : RoundState). w.schedule) (sym (by-nothing setup t)) ∙ is.schedule in cc

not-more : (n m : ℕ) → n ≡ m → m ≡ suc n → ⊥
not-more n m same more = omega arith

-- nor is one at another machine,
pub another-machine :
    (setup : Setup) (past : Option History)
    → IsBySchedule (record (opening setup past) { machine = record (first setup) { steps = suc (first setup).steps } })
    → ⊥
another-machine setup past is =
    not-more (first setup).steps (suc (first setup).steps) (ap (λ (m : Machine). m.steps) is.machine) refl

-- nor one with other records.
pub another-record :
    (setup : Setup) (past : Option History) (r : Record)
    → IsBySchedule (record (opening setup past) { records = r ∷ [] })
    → ⊥
another-record setup past r is = let empty : [] ≡ r ∷ [] = is.records in cc
