-- Which operations stand for a word: those that mean its instruction, and those that do the same without.
use Rattle.std.proofs.Common.{◌≡◌, ◌≢◌, ℕ, ◌^◌, ◌<◌, true, false, List, [], Some, refl, sym, ◌∙◌, arith}
use Rattle.isa_spec.specs.declared.Instr.{Instr}
use Rattle.isa_spec.specs.declared.Instr.TheVariants as instr
use Rattle.isa_spec.specs.declared.BranchTest.{BranchTest}
use Rattle.isa_spec.specs.declared.ImmediateOperation.TheVariants as immediate
use Rattle.isa_spec.specs.Operations.{immediate_result}
use Rattle.isa_spec.specs.Registers.{Registers, register, with_register}
use Rattle.isa_spec.specs.Table.{decoded}
use Rattle.isa_spec.specs.Words.{sum_of, difference_of}
use Rattle.memory_spec.specs.Pages.{Mapped, Memory}
use Rattle.thunk_spec.specs.Turn.{passed, advanced, computed, executed}
use Rattle.rv_code.specs.declared.operation.Operation.{Operation}
use Rattle.rv_code.specs.declared.operation.Kind.{Kind}
use Rattle.rv_code.specs.declared.operation.Kind.TheVariants as kind
use Rattle.rv_code.specs.Meaning.{StandsFor, word_address, offset_to, instr_by, instr_of, is_inside, may_have_zero}

-- two instructions do the same at an address
abbrev DoSame : ℕ → Instr → Instr → Type 0
DoSame address i j =
    (map : List Mapped) (memory : Memory) (r : Registers) → r.pc ≡ address → register r 0 ≡ 0
    → executed map memory r i ≡ executed map memory r j

-- the fields of an operation fit its kind
pub record Fits (o : Operation) : Type 0 where
  pub rd : o.rd < 32
  pub rs1 : o.rs1 < 32
  pub rs2 : o.rs2 < 32
  pub writes : may_have_zero o.kind ≡ false → o.rd ≢ 0
  pub inside : is_inside o.kind ≡ true → o.imm < 1024

-- an operation stands for a word if its instruction does what the word's does
pub stands_alike :
    (address word : ℕ) (o : Operation) (i j : Instr) → decoded word ≡ Some i → instr_of address o ≡ Some j
    → DoSame address j i → Fits o → StandsFor address word o
stands_alike address word o i j known means alike fits =
    record {
      rd = fits.rd;
      rs1 = fits.rs1;
      rs2 = fits.rs2;
      writes = fits.writes;
      inside = fits.inside;
      same = λ map memory r k is at zero. let e : k ≡ j = cc in rw (e, known) (alike map memory r at zero);
    }

-- an operation stands for each word of the instruction that it means
pub stands_for_its_own :
    (address word : ℕ) (o : Operation) (i : Instr) → decoded word ≡ Some i → instr_of address o ≡ Some i → Fits o
    → StandsFor address word o
stands_for_its_own address word o i known means fits =
    stands_alike address word o i i known means (λ map memory r at zero. refl) fits

-- the operation that does nothing but continue
abbrev pub nothing : Operation
nothing = record { kind = kind.Nothing; rd = 0; rs1 = 0; rs2 = 0; imm = 0 }

-- it stands for each instruction that only puts a value into x0
pub nothing_stands :
    (address word : ℕ) (i : Instr) (rd : ℕ) → rd ≡ 0 → decoded word ≡ Some i
    → ((map : List Mapped) (memory : Memory) (r : Registers) → r.pc ≡ address → register r 0 ≡ 0
    → (value : ℕ) × (executed map memory r i ≡ computed r rd value))
    → StandsFor address word nothing
unfolding with_register
nothing_stands address word i rd zero known puts =
    stands_alike address word nothing i instr.Fence known refl
    (λ map memory r at none.
    let p = puts map memory r at none in
    let e : executed map memory r i ≡ passed (advanced r) [] [] = rw zero at p.1 in
    sym e)
    (record { rd = omega arith; rs1 = omega arith; rs2 = omega arith; writes = λ e z. cc; inside = λ e. cc })

-- the offset to a target leads there
pub leads_there :
    (address target : ℕ) → address < 2 ^ 32 → target < 2 ^ 32 → sum_of address (difference_of target address) ≡ target
leads_there address target here there = omega arith

-- a branch by the index of its target's word stands for the branch by its offset
pub branch_stands :
    (address word : ℕ) (test : BranchTest) (rs1 rs2 offset : ℕ) (k : Kind) (index : ℕ)
    → decoded word ≡ Some (instr.Branch test rs1 rs2 offset)
    → instr_by k address 0 rs1 rs2 index ≡ Some (instr.Branch test rs1 rs2 (offset_to address index))
    → may_have_zero k ≡ true → address < 2 ^ 32 → rs1 < 32 → rs2 < 32 → index < 1024
    → word_address address index ≡ sum_of address offset
    → StandsFor address word (record { kind = k; rd = 0; rs1 = rs1; rs2 = rs2; imm = index })
branch_stands address word test rs1 rs2 offset k index known means zero here h1 h2 inside target =
    let same : sum_of address (offset_to address index) ≡ sum_of address offset =
    leads_there address (word_address address index) here (omega arith) ∙ target in
    stands_alike address word _ _ _ known means
    (λ map memory r at none. rw (at, same) refl)
    (record { rd = omega arith; rs1 = h1; rs2 = h2; writes = λ e z. cc; inside = λ e. inside })

-- the sum of x0 and an immediate is the immediate
pub sum_with_x0 :
    (r : Registers) (rs1 imm : ℕ) → rs1 ≡ 0 → register r 0 ≡ 0 → imm < 2 ^ 32
    → immediate_result immediate.Add (register r rs1) imm ≡ imm
unfolding immediate_result
sum_with_x0 r rs1 imm source zero fits = rw (source, zero) (omega arith)
