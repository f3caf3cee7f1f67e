-- The registers of a hart.
use Rattle.std.specs.Prelude.{ℕ, Bool, List, slice_index, slice_set, ◌==◌, ◌&&◌, if◌then◌else◌}
use Rattle.std.specs.Str.{bytes_eq}

-- pc, and x0 to x31 in order (RISC-V unprivileged ISA 20191213, 2.1)
pub record Registers : Type 0 where
  pub pc : ℕ
  pub x : List ℕ

-- what register n holds (RISC-V unprivileged ISA 20191213, 2.1)
abbrev pub register : Registers → ℕ → ℕ
register r n = slice_index r.x n

-- the registers after a write to register n; x0 stays as it is (RISC-V unprivileged ISA 20191213, 2.1)
unfoldable pub with_register : Registers → ℕ → ℕ → Registers
with_register r n value = if n == 0 then r else record r { x = slice_set r.x n value }

-- the registers with another pc (RISC-V unprivileged ISA 20191213, 2.1)
abbrev pub with_pc : Registers → ℕ → Registers
with_pc r pc = record r { pc = pc }

-- whether two sets of registers are the same
abbrev pub same_registers : Registers → Registers → Bool
same_registers a b = (a.pc == b.pc) && bytes_eq a.x b.x
