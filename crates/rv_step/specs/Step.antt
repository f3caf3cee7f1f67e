-- What it is for a turn of the model to have been made by code, on registers and on the memory that a thread works on.
use Rattle.std.specs.Prelude.{◌≡◌, ℕ, zero, suc, []}
use Rattle.isa_spec.specs.Registers.{Registers}
use Rattle.memory_spec.specs.Workspace.{Workspace, after_taking, after_storing}
use Rattle.thunk_spec.specs.declared.ends.Outcome.{Outcome}
use Rattle.thunk_spec.specs.declared.ends.Outcome.TheVariants.{Next}
use Rattle.thunk_spec.specs.Turn.{Turn, turn}

-- A turn was made: it ended in this way, with these registers, and the memory has noted its pages and its stores.
pub record Makes (t : Turn) (before : Workspace) (ended : Outcome) (registers : Registers) (after : Workspace) : Type 0
  where
    pub outcome_is : ended ≡ t.outcome
    pub regs_are : registers ≡ t.regs
    pub workspace_is : after ≡ after_storing (after_taking before t.taken) t.stores

-- The turn that ended in this way, with these registers, and didn't access memory.
abbrev pub untouched : Outcome → Registers → Turn
untouched ended registers = record { outcome = ended; regs = registers; taken = []; stores = [] }

-- So many turns were made, one after the other, each of which leads on to the next: from this memory and these
-- registers to those.
abbrev pub Follow : ℕ → Workspace → Registers → Workspace → Registers → Type 0
Follow zero before r after registers = (after ≡ before) × (registers ≡ r)
Follow (suc n) before r after registers =
    (middle : Workspace) × (between : Registers) × Makes (turn before.map before.memory r) before Next between middle
    × Follow n middle between after registers
