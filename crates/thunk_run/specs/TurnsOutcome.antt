-- The result of turns, with the memory that they worked on.
use Rattle.std.specs.Prelude.{ℕ, ◌+◌}
use Rattle.isa_spec.specs.Registers.{Registers}
use Rattle.memory_spec.specs.Workspace.{Workspace, after_taking, after_storing}
use Rattle.thunk_spec.specs.declared.ends.ThunkEnd.{ThunkEnd}
use Rattle.thunk_spec.specs.Put.{put_addresses}
use Rattle.thunk_spec.specs.Thunk.{Thunk, turns}

-- The result of turns: registers, how they ended, how many they were, and the memory that they worked on.
pub record TurnsOutcome : Type 0 where
  pub regs : Registers
  pub end : ThunkEnd
  pub count : ℕ
  pub workspace : Workspace

-- The result of a thunk's turns on a memory that a thread works on.
abbrev pub outcome_by : Workspace → Thunk → TurnsOutcome
outcome_by w t =
    record { regs = t.regs; end = t.end; count = t.count; workspace = after_storing (after_taking w t.taken) t.stores }

-- The result of at most so many turns, from a memory and registers.
abbrev pub outcome_after : ℕ → Workspace → Registers → TurnsOutcome
outcome_after fuel w r = outcome_by w (turns w.map fuel w.memory r)

-- The same, with so many earlier turns counted.
abbrev pub counted : ℕ → TurnsOutcome → TurnsOutcome
counted before l = record l { count = before + l.count }

-- The same after the bytes of the put that ends the turns were taken too.
abbrev pub with_put_taken : TurnsOutcome → TurnsOutcome
with_put_taken l = record l { workspace = after_taking l.workspace (put_addresses l.workspace.map l.end l.regs) }
