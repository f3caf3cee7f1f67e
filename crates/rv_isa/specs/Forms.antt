-- Forms of instructions.
use Rattle.std.specs.Prelude.{⊤}
use Rattle.isa_spec.specs.declared.Instr.{Instr}
use Rattle.isa_spec.specs.declared.Instr.TheVariants as instr

-- an operation: an instruction that has its result in a register, of another register and an immediate, an amount or a
-- third register (RISC-V unprivileged ISA 20191213, 2.4, and chapter 7)
abbrev pub IsOperation : Instr → Type 0
IsOperation (instr.Immediate o rd rs1 imm) = ⊤
IsOperation (instr.Shift s rd rs1 amount) = ⊤
IsOperation (instr.Register o rd rs1 rs2) = ⊤
IsOperation _ = ⊥
