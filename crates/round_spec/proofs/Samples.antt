-- Small rounds of the worked examples, and what these look at.
use Rattle.std.proofs.Common.{ℕ, Bool, true, false, List, [], ◌∷◌, filter, Option, Some}
use Rattle.memory_spec.specs.Pages.{Memory}
use Rattle.thunk_spec.specs.Thunk.{thunk}
use Rattle.thunk_spec.specs.Delta.{PageDelta}
use Rattle.thunk_spec.specs.Reads.{reads_of}
use Rattle.thunk_spec.specs.Record.{Record}
use Rattle.machine_spec.specs.Machine.{Machine, hart_of}
use Rattle.machine_spec.specs.Setup.{Setup}
use Rattle.history_spec.specs.History.{History}
use Rattle.report_spec.specs.declared.Entry.{Entry}
use Rattle.round_spec.specs.Rounds.{RoundState, none_in_flight, nothing_taken, is_in_flight}

-- a setup that the examples don't depend on
abbrev pub some_setup : Setup
some_setup = record { elf = []; input = []; fuel = 9; limit = 9 }

-- a history of some records
abbrev pub past_of : List Record → Option History
past_of records = Some (record { setup = some_setup; records = records })

-- a round at its start, based on some records
abbrev pub starts : Machine → Option History → RoundState
starts m past =
    record {
      setup = some_setup;
      past = past;
      machine = m;
      schedule = [];
      records = [];
      picked = [];
      in_flight = none_in_flight;
      taken_at = nothing_taken;
      discarded = 0;
      stopped = false;
    }

-- the record of a thread's next step; its stored bytes are given, since its masks are long
abbrev pub recorded : Machine → ℕ → List PageDelta → Record
recorded m t delta =
    record {
      thread = t;
      number = (hart_of m t).number;
      start = (hart_of m t).regs;
      kept = record {
        reads = reads_of m.frame.map (hart_of m t).view (thunk m.frame (hart_of m t).view (hart_of m t).regs).taken;
        delta = delta;
        finish = (thunk m.frame (hart_of m t).view (hart_of m t).regs).regs;
        end = (thunk m.frame (hart_of m t).view (hart_of m t).regs).end;
        count = (thunk m.frame (hart_of m t).view (hart_of m t).regs).count;
      };
    }

-- a reused entry, and an executed one
abbrev pub reuses : ℕ → Entry
reuses t = record { thread = t; reused = true }

abbrev pub executes : ℕ → Entry
executes t = record { thread = t; reused = false }

-- a round's schedule, which of the first four threads are in flight, how many steps were discarded, and whether it was
-- stopped
abbrev pub seen : RoundState → List Entry × List ℕ × ℕ × Bool
seen w = (w.schedule, filter (is_in_flight w) (0 ∷ 1 ∷ 2 ∷ 3 ∷ []), w.discarded, w.stopped)

-- main: load the byte at 0x11000, forget it, yield, and exit with 3
abbrev pub forgets : ℕ → Memory
forgets byte =
    (0xB7 ∷ 0x12 ∷ 0x01 ∷ 0x00 ∷ 0x03 ∷ 0xC4 ∷ 0x02 ∷ 0x00 ∷ 0x13 ∷ 0x04 ∷ 0x00 ∷ 0x00 ∷ 0x93 ∷ 0x08 ∷ 0x50 ∷ 0x00
    ∷ 0x73 ∷ 0x00 ∷ 0x00 ∷ 0x00
    ∷ 0x13 ∷ 0x05 ∷ 0x30 ∷ 0x00 ∷ 0x93 ∷ 0x08 ∷ 0x00 ∷ 0x00 ∷ 0x73 ∷ 0x00 ∷ 0x00 ∷ 0x00 ∷ [])
    ∷ (byte ∷ []) ∷ []
