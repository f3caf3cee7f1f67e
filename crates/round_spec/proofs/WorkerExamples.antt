-- Worked examples of one worker, each computed by the checker. Orders, marks and counts were worked out by hand.
use Rattle.std.proofs.Common.{◌≡◌, true, false, [], ◌∷◌, map, Option, Some, None, refl}
use Rattle.isa_spec.specs.Fields.{i_immediate, s_immediate, u_immediate}
use Rattle.isa_spec.specs.Registers.{with_register}
use Rattle.isa_spec.specs.Operations.{immediate_result, shift_result, register_result}
use Rattle.isa_spec.specs.Table.{decoded, reading_of}
use Rattle.memory_spec.specs.Pages.{permission_at}
use Rattle.memory_spec.specs.Stores.{with_byte}
use Rattle.memory_spec.specs.Access.{number_in, number_at, loaded, fetched, may_store, bytes_stored}
use Rattle.guest_call.specs.Objects.{all_unlocked}
use Rattle.elf_spec.specs.Fields.{u32_at}
use Rattle.elf_spec.specs.Image.{entry_of}
use Rattle.thunk_spec.specs.Put.{is_readable, put_addresses}
use Rattle.thunk_spec.specs.Turn.{turn}
use Rattle.thunk_spec.specs.Thunk.{thunk}
use Rattle.thunk_spec.specs.Reads.{reads_of}
use Rattle.thunk_spec.specs.Record.{put_of, may_end, fits_at}
use Rattle.machine_spec.specs.Machine.{Machine}
use Rattle.machine_spec.specs.Performing.{first_registers}
use Rattle.machine_spec.specs.Setup.{first}
use Rattle.machine_spec.specs.Step.{step, finished, apply, fits}
use Rattle.machine_spec.proofs.Guests.{begins, late}
use Rattle.history_spec.specs.History.{History}
use Rattle.history_spec.proofs.Examples.{shortest, only_step, only-honest}
use Rattle.round_spec.specs.declared.events.Event.TheVariants.{Take, Reuse, Commit, GiveBack, Stop}
use Rattle.round_spec.specs.declared.events.Pick.TheVariants as pick
use Rattle.round_spec.specs.Rounds.{none_in_flight, happens}
use Rattle.round_spec.specs.Due.{is_due}
use Rattle.round_spec.specs.Choice.{free_threads, least_by, best, choice_by, pick_of}
use Rattle.round_spec.specs.Alone.{after_picks, lone_round, begun_in}
use Rattle.round_spec.specs.Unedited.{OnlyReuses}
use Rattle.round_spec.proofs.Samples.{past_of, starts, recorded, reuses, executes, seen, forgets}
use Rattle.round_spec.specs.OneWorker.{executed_in}
use Rattle.round_spec.specs.Replaying.{goes_on_by}
use Rattle.round_spec.proofs.Unedited.{unedited-reuses}

-- the machine after main created the thread; after main loaded a byte, too; and after the thread stored one then
abbrev one : Machine
one = step (begins 9 9 late) 0

abbrev two : Machine
two = step one 0

abbrev three : Machine
three = step two 1

-- the steps made in the order 0, 0, 1, 0, which isn't that of one worker without a history
abbrev main_first : Option History
main_first =
    past_of
    (recorded (begins 9 9 late) 0 [] ∷ recorded one 0 [] ∷ recorded two 1
    (record { slot = 1; mask = true ∷ []; bytes = 51 ∷ [] } ∷ [])
    ∷ recorded three 0 [] ∷ [])

-- main alone, whose byte was 4
abbrev was_4 : Option History
was_4 = past_of (recorded (begins 9 9 (forgets 4)) 0 [] ∷ recorded (step (begins 9 9 (forgets 4)) 0) 0 [] ∷ [])

-- Without an edit the order is the old one, and all is reused.
pub picks-main_first :
    seen (after_picks 9 (starts (begins 9 9 late) main_first))
    ≡ (reuses 0 ∷ reuses 0 ∷ reuses 1 ∷ reuses 0 ∷ [], [], 0, false)
unfolding none_in_flight is_due free_threads least_by best choice_by pick_of first entry_of u32_at happens step finished apply
    fits fits_at may_end put_of reads_of thunk turn fetched number_at number_in permission_at decoded reading_of
    u_immediate i_immediate s_immediate immediate_result shift_result register_result with_register is_readable
    put_addresses loaded may_store bytes_stored with_byte first_registers all_unlocked
picks-main_first = refl

-- Nothing is executed then.
pub executed-main_first : executed_in 9 (starts (begins 9 9 late) main_first) ≡ 0
unfolding none_in_flight is_due free_threads least_by best choice_by pick_of first entry_of u32_at happens step finished apply
    fits fits_at may_end put_of reads_of thunk turn fetched number_at number_in permission_at decoded reading_of
    u_immediate i_immediate s_immediate immediate_result shift_result register_result with_register is_readable
    put_addresses loaded may_store bytes_stored with_byte first_registers all_unlocked
executed-main_first = refl

-- Without a history, all is executed: 5 instructions to create, 5 to store, 4 to load, 2 to end, 6 to exit.
pub executed-alone : executed_in 9 (starts (begins 9 9 late) None) ≡ 22
unfolding none_in_flight is_due free_threads least_by best choice_by pick_of first entry_of u32_at happens step finished apply
    fits fits_at may_end put_of reads_of thunk turn fetched number_at number_in permission_at decoded reading_of
    u_immediate i_immediate s_immediate immediate_result shift_result register_result with_register is_readable
    put_addresses loaded may_store bytes_stored with_byte first_registers all_unlocked
executed-alone = refl

-- This many in the first two picks.
pub executed-two : executed_in 2 (starts (begins 9 9 late) None) ≡ 10
unfolding none_in_flight is_due free_threads least_by best choice_by pick_of first entry_of u32_at happens step finished apply
    fits fits_at may_end put_of reads_of thunk turn fetched number_at number_in permission_at decoded reading_of
    u_immediate i_immediate s_immediate immediate_result shift_result register_result with_register is_readable
    put_addresses loaded may_store bytes_stored with_byte first_registers all_unlocked
executed-two = refl

-- After an edit of the byte the first step is executed, of 5 instructions, and the second is reused.
pub picks-edited :
    seen (after_picks 9 (starts (begins 9 9 (forgets 7)) was_4)) ≡ (executes 0 ∷ reuses 0 ∷ [], [], 0, false)
unfolding none_in_flight is_due free_threads least_by best choice_by pick_of first entry_of u32_at happens step finished apply
    fits fits_at may_end put_of reads_of thunk turn fetched number_at number_in permission_at decoded reading_of
    u_immediate i_immediate s_immediate immediate_result shift_result register_result with_register is_readable
    put_addresses loaded may_store bytes_stored with_byte first_registers all_unlocked
picks-edited = refl

-- These 5 are all.
pub executed-edited : executed_in 9 (starts (begins 9 9 (forgets 7)) was_4) ≡ 5
unfolding none_in_flight is_due free_threads least_by best choice_by pick_of first entry_of u32_at happens step finished apply
    fits fits_at may_end put_of reads_of thunk turn fetched number_at number_in permission_at decoded reading_of
    u_immediate i_immediate s_immediate immediate_result shift_result register_result with_register is_readable
    put_addresses loaded may_store bytes_stored with_byte first_registers all_unlocked
executed-edited = refl

-- Without an edit, no step is started; without a history, each is, in order; after the edit, the first is.
pub begun-main_first : begun_in 9 (starts (begins 9 9 late) main_first) ≡ []
unfolding none_in_flight is_due free_threads least_by best choice_by pick_of first entry_of u32_at happens step finished apply
    fits fits_at may_end put_of reads_of thunk turn fetched number_at number_in permission_at decoded reading_of
    u_immediate i_immediate s_immediate immediate_result shift_result register_result with_register is_readable
    put_addresses loaded may_store bytes_stored with_byte first_registers all_unlocked
begun-main_first = refl

pub begun-alone : begun_in 9 (starts (begins 9 9 late) None) ≡ 0 ∷ 1 ∷ 0 ∷ 1 ∷ 0 ∷ []
unfolding none_in_flight is_due free_threads least_by best choice_by pick_of first entry_of u32_at happens step finished apply
    fits fits_at may_end put_of reads_of thunk turn fetched number_at number_in permission_at decoded reading_of
    u_immediate i_immediate s_immediate immediate_result shift_result register_result with_register is_readable
    put_addresses loaded may_store bytes_stored with_byte first_registers all_unlocked
begun-alone = refl

pub begun-two : begun_in 2 (starts (begins 9 9 late) None) ≡ 0 ∷ 1 ∷ []
unfolding none_in_flight is_due free_threads least_by best choice_by pick_of first entry_of u32_at happens step finished apply
    fits fits_at may_end put_of reads_of thunk turn fetched number_at number_in permission_at decoded reading_of
    u_immediate i_immediate s_immediate immediate_result shift_result register_result with_register is_readable
    put_addresses loaded may_store bytes_stored with_byte first_registers all_unlocked
begun-two = refl

pub begun-edited : begun_in 9 (starts (begins 9 9 (forgets 7)) was_4) ≡ 0 ∷ []
unfolding none_in_flight is_due free_threads least_by best choice_by pick_of first entry_of u32_at happens step finished apply
    fits fits_at may_end put_of reads_of thunk turn fetched number_at number_in permission_at decoded reading_of
    u_immediate i_immediate s_immediate immediate_result shift_result register_result with_register is_readable
    put_addresses loaded may_store bytes_stored with_byte first_registers all_unlocked
begun-edited = refl

-- The round of the smallest history's own setup only reuses it.
pub only-reuses : OnlyReuses only_step (lone_round shortest (Some only_step))
only-reuses = unedited-reuses only_step only-honest

-- A step that was picked to be reused may be reused, and nothing else may be started.
pub goes-reuse :
    map (goes_on_by (pick.Reuse 1)) (Reuse 1 ∷ Reuse 2 ∷ Take 1 ∷ Commit 3 ∷ GiveBack 3 ∷ Stop ∷ [])
    ≡ true ∷ false ∷ false ∷ true ∷ true ∷ true ∷ []
goes-reuse = refl

-- The same holds of a step that was picked to be executed.
pub goes-run :
    map (goes_on_by (pick.Run 1)) (Take 1 ∷ Take 2 ∷ Reuse 1 ∷ Commit 3 ∷ GiveBack 3 ∷ Stop ∷ [])
    ≡ true ∷ false ∷ false ∷ true ∷ true ∷ true ∷ []
goes-run = refl

-- A worker that has to wait starts nothing, and after the end none does.
pub goes-hold :
    map (goes_on_by pick.Hold) (Take 0 ∷ Reuse 0 ∷ Commit 0 ∷ GiveBack 0 ∷ Stop ∷ [])
    ≡ false ∷ false ∷ true ∷ true ∷ true ∷ []
goes-hold = refl

pub goes-over :
    map (goes_on_by pick.Over) (Take 0 ∷ Reuse 0 ∷ Commit 0 ∷ GiveBack 0 ∷ Stop ∷ [])
    ≡ false ∷ false ∷ true ∷ true ∷ true ∷ []
goes-over = refl
