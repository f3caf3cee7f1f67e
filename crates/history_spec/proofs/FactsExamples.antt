-- Worked examples of the facts of a small run, each computed by the checker. They were worked out by hand.
use Rattle.std.proofs.Common.{◌≡◌, ℕ, true, false, List, [], ◌∷◌, map, refl}
use Rattle.isa_spec.specs.Fields.{i_immediate, s_immediate, u_immediate}
use Rattle.isa_spec.specs.Registers.{with_register}
use Rattle.isa_spec.specs.Operations.{immediate_result, shift_result, register_result}
use Rattle.isa_spec.specs.Table.{decoded, reading_of}
use Rattle.memory_spec.specs.Pages.{permission_at}
use Rattle.memory_spec.specs.Stores.{with_byte}
use Rattle.memory_spec.specs.Access.{number_in, number_at, loaded, fetched, may_store, bytes_stored}
use Rattle.guest_call.specs.declared.Object.TheVariants.{ThreadTable}
use Rattle.guest_call.specs.Objects.{all_unlocked}
use Rattle.thunk_spec.specs.Put.{is_readable, put_addresses}
use Rattle.thunk_spec.specs.Turn.{turn}
use Rattle.thunk_spec.specs.Thunk.{thunk}
use Rattle.thunk_spec.specs.Delta.{PageDelta}
use Rattle.thunk_spec.specs.Reads.{reads_of}
use Rattle.thunk_spec.specs.Record.{Record, put_of, may_end, fits_at}
use Rattle.machine_spec.specs.Machine.{Machine, hart_of}
use Rattle.machine_spec.specs.Performing.{first_registers}
use Rattle.machine_spec.specs.Step.{step, finished, apply, fits}
use Rattle.machine_spec.proofs.Guests.{begins, late}
use Rattle.history_spec.specs.Facts.{Fact, reads_in, facts_from}
use Rattle.history_spec.specs.Ancestors.{edges_at}

-- the record of a thread's next step; its stored bytes are given, since its masks are long
abbrev pub recorded : Machine → ℕ → List PageDelta → Record
recorded m t delta =
    record {
      thread = t;
      number = (hart_of m t).number;
      start = (hart_of m t).regs;
      kept = record {
        reads = reads_of m.frame.map (hart_of m t).view (thunk m.frame (hart_of m t).view (hart_of m t).regs).taken;
        delta = delta;
        finish = (thunk m.frame (hart_of m t).view (hart_of m t).regs).regs;
        end = (thunk m.frame (hart_of m t).view (hart_of m t).regs).end;
        count = (thunk m.frame (hart_of m t).view (hart_of m t).regs).count;
      };
    }

-- main has created thread 1; thread 1 has stored a byte, and yielded; main has loaded it, and yielded
abbrev pub created : Machine
created = step (begins 9 9 late) 0

abbrev pub stored : Machine
stored = step created 1

abbrev pub seen : Machine
seen = step stored 0

-- the records of these steps, and of the one by which main exits
abbrev pub steps : List Record
steps =
    recorded (begins 9 9 late) 0 []
    ∷ recorded created 1 (record { slot = 1; mask = true ∷ []; bytes = 51 ∷ [] } ∷ [])
    ∷ recorded stored 0 []
    ∷ recorded seen 0 []
    ∷ []

abbrev pub done : List Fact
done = facts_from (reads_in steps) (begins 9 9 late) steps

-- The create gives main and the thread their views, of which main's next thunk reads both pages, and the thread's the
-- code. The thread writes page 1. A yield acts on nothing. Main's exit gives no view, and is the last.
pub facts-late :
    done
    ≡ record {
      thread = 0;
      objects = ThreadTable ∷ [];
      given = 0 ∷ 1 ∷ [];
      written = [];
      opened = 0 ∷ 1 ∷ 0 ∷ [];
      last = false;
    }
    ∷ record { thread = 1; objects = []; given = 1 ∷ []; written = 1 ∷ []; opened = []; last = false }
    ∷ record { thread = 0; objects = []; given = 0 ∷ []; written = []; opened = 0 ∷ 1 ∷ []; last = false }
    ∷ record { thread = 0; objects = []; given = []; written = []; opened = []; last = true }
    ∷ []
unfolding step finished apply fits fits_at may_end put_of reads_of thunk turn fetched number_at number_in permission_at
    decoded reading_of u_immediate i_immediate s_immediate immediate_result shift_result register_result with_register
    is_readable put_addresses loaded may_store bytes_stored with_byte first_registers all_unlocked
facts-late = refl

-- The create comes before all. Main's first yield opens the page that the thread writes, so the two stay in order.
pub edges-late : map (edges_at done) (0 ∷ 1 ∷ 2 ∷ 3 ∷ []) ≡ [] ∷ (0 ∷ []) ∷ (0 ∷ 1 ∷ []) ∷ (0 ∷ 1 ∷ 2 ∷ []) ∷ []
unfolding step finished apply fits fits_at may_end put_of reads_of thunk turn fetched number_at number_in permission_at
    decoded reading_of u_immediate i_immediate s_immediate immediate_result shift_result register_result with_register
    is_readable put_addresses loaded may_store bytes_stored with_byte first_registers all_unlocked
edges-late = refl

-- A record that doesn't fit, and each that follows it, has a bare fact.
pub facts-bare :
    facts_from (reads_in steps) created
    (recorded created 1 (record { slot = 1; mask = true ∷ []; bytes = 51 ∷ [] } ∷ []) ∷ recorded
    (begins 9 9 late) 0 [] ∷ [])
    ≡ record { thread = 1; objects = []; given = 1 ∷ []; written = 1 ∷ []; opened = []; last = false }
    ∷ record { thread = 0; objects = []; given = []; written = []; opened = []; last = false }
    ∷ []
unfolding step finished apply fits fits_at may_end put_of reads_of thunk turn fetched number_at number_in permission_at
    decoded reading_of u_immediate i_immediate s_immediate immediate_result shift_result register_result with_register
    is_readable put_addresses loaded may_store bytes_stored with_byte first_registers all_unlocked
facts-bare = refl
