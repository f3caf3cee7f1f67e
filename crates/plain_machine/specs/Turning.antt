-- The result of turns, and what a thunk in code is.
use Rattle.std.specs.Prelude.{◌≡◌, ℕ, ◌+◌, List}
use Rattle.isa_spec.specs.Registers.{Registers}
use Rattle.memory_spec.specs.Pages.{Mapped, Memory, IsMemory}
use Rattle.memory_spec.specs.Stores.{with_stores}
use Rattle.memory_spec.specs.Workspace.{Masks, marked}
use Rattle.thunk_spec.specs.declared.ends.ThunkEnd.{ThunkEnd}
use Rattle.thunk_spec.specs.Thunk.{Frame, Thunk, thunk, turns}
use Rattle.plain_machine.specs.declared.thunk.ThunkResult.{ThunkResult}
use Rattle.plain_machine.specs.Stored.{bytes_of}

-- The result of turns: registers, how they ended, how many they were, memory, and where it was stored to.
pub record TurnsOutcome : Type 0 where
  pub regs : Registers
  pub end : ThunkEnd
  pub count : ℕ
  pub memory : Memory
  pub stored : Masks

-- The result of a thunk's turns on a memory.
abbrev pub outcome_by : List Mapped → Memory → Masks → Thunk → TurnsOutcome
outcome_by map memory stored t =
    record {
      regs = t.regs;
      end = t.end;
      count = t.count;
      memory = with_stores map memory t.stores;
      stored = marked map stored t.stores;
    }

-- The result of at most so many turns, from a memory and registers.
abbrev pub outcome_after : List Mapped → ℕ → Memory → Masks → Registers → TurnsOutcome
outcome_after map fuel memory stored r = outcome_by map memory stored (turns map fuel memory r)

-- The same, with so many earlier turns counted.
abbrev pub counted : ℕ → TurnsOutcome → TurnsOutcome
counted before l = record l { count = before + l.count }

-- A result is that of the thunk of these registers on this view. Its stores have the same effect on every memory of the
-- map as the thunk's.
pub record IsDone (f : Frame) (view : Memory) (start : Registers) (d : ThunkResult) : Type 0 where
  pub regs : d.regs ≡ (thunk f view start).regs
  pub end : d.end ≡ (thunk f view start).end
  pub count : d.count ≡ (thunk f view start).count
  pub put : d.put.items ≡ (thunk f view start).put
  pub applies : (shared : Memory) → IsMemory f.map shared
      → with_stores f.map shared (bytes_of d.stores.items) ≡ with_stores f.map shared (thunk f view start).stores
