-- What it is for an instruction to have been read as an operation.
use Rattle.std.specs.Prelude.{◌≡◌, ℕ, List, Some}
use Rattle.isa_spec.specs.declared.Instr.{Instr}
use Rattle.isa_spec.specs.Registers.{Registers, register}
use Rattle.isa_spec.specs.Table.{decoded}
use Rattle.memory_spec.specs.Pages.{Mapped, Memory}
use Rattle.thunk_spec.specs.Turn.{computed, executed}
use Rattle.rv_code.specs.declared.operation.Operation.{Operation}
use Rattle.rv_code.specs.Meaning.{StandsFor}

-- An operation stands for each word of an instruction, at an address.
abbrev pub ReadAs : ℕ → Instr → Operation → Type 0
ReadAs address i o = (word : ℕ) → decoded word ≡ Some i → StandsFor address word o

-- At an address an instruction puts one value into a register, whatever memory and registers.
abbrev pub PutsConstant : ℕ → Instr → ℕ → ℕ → Type 0
PutsConstant address i rd value =
    (map : List Mapped) (memory : Memory) (r : Registers) → r.pc ≡ address → register r 0 ≡ 0
    → executed map memory r i ≡ computed r rd value
