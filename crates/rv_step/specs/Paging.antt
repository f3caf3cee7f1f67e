-- What it is for an operation of a decoded page to have been executed in place of a turn.
use Rattle.std.specs.Prelude.{◌≡◌, ◌<◌, ℕ, ◌+◌, ◌*◌, List, Option, Some, None}
use Rattle.isa_spec.specs.declared.Instr.{Instr}
use Rattle.isa_spec.specs.Registers.{Registers, with_pc}
use Rattle.isa_spec.specs.Words.{sum_of}
use Rattle.memory_spec.specs.Workspace.{Workspace}
use Rattle.thunk_spec.specs.declared.ends.Outcome.TheVariants.{Next}
use Rattle.thunk_spec.specs.Turn.{executed}
use Rattle.page_store.specs.Entering.{RunsFrom}
use Rattle.rv_code.specs.declared.operation.Operation.{Operation}
use Rattle.rv_code.specs.Meaning.{instr_of}
use Rattle.rv_step.specs.declared.placed.Flow.{Flow}
use Rattle.rv_step.specs.declared.placed.Flow.TheVariants as flow
use Rattle.rv_step.specs.declared.placed.Placed.{Placed}
use Rattle.rv_step.specs.Step.{Makes}

-- The address of a word, by the number of its page and its index there.
abbrev pub word_at : ℕ → ℕ → ℕ
word_at number index = sum_of (number * 4096) (4 * index)

-- Registers with the pc at a word of a page.
abbrev pub at_word : ℕ → ℕ → Registers → Registers
at_word number index r = with_pc r (word_at number index)

-- An instruction was executed, and another one follows: from this memory and these registers to those.
abbrev pub Executes : Option Instr → Workspace → Registers → Workspace → Registers → Type 0
Executes None before r after registers = ⊥
Executes (Some i) before r after registers = Makes (executed before.map before.memory r i) before Next registers after

-- A page of this number from which instructions could be run as some bytes can still be run from as these.
abbrev pub RunsOn : ℕ → Workspace → Workspace → Type 0
RunsOn number before after = (bytes : List ℕ) → RunsFrom before number bytes → RunsFrom after number bytes

-- The operation of a placed one.
abbrev pub operation_of : Placed → Operation
operation_of p = record { kind = p.kind; rd = p.rd; rs1 = p.rs1; rs2 = p.rs2; imm = p.imm }

-- The instruction that a placed operation stands for.
abbrev pub instr_placed : Placed → Option Instr
instr_placed p = instr_of (word_at p.number p.index) (operation_of p)

-- An operation was executed in place of a turn and led there; or nothing happened, and it is left to a turn of its own.
abbrev pub Leads : Flow → Placed → Workspace → Registers → Workspace → Registers → Type 0
Leads flow.Next p before r after registers =
    Executes (instr_placed p) before (at_word p.number p.index r) after
    (at_word p.number (p.index + 1) registers)
    × RunsOn p.number before after
Leads (flow.Inside target) p before r after registers =
    Executes (instr_placed p) before (at_word p.number p.index r) after
    (at_word p.number target registers)
    × RunsOn p.number before after × (target < 1024)
Leads (flow.Outside target) p before r after registers =
    Executes (instr_placed p) before (at_word p.number p.index r) after
    (with_pc registers target)
Leads flow.Changed p before r after registers =
    Executes (instr_placed p) before (at_word p.number p.index r) after
    (at_word p.number (p.index + 1) registers)
Leads flow.Other p before r after registers = (after ≡ before) × (registers ≡ r)
